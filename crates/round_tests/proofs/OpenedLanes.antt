-- Lanes of one layout.
use Rattle.std.proofs.Common.{◌≡◌, ℕ, ◌<◌, List, length, get_or, sym, ap, subst, ◌∙◌, arith}
use Rattle.std.specs.List.{All}
use Rattle.std.proofs.lemmas.List.Elements.{All-weaker}
use Rattle.trace_base.specs.declared.layout.Layout.{Layout}
use Rattle.subpage.specs.ItemData.{ItemData}
use Rattle.line_holes.specs.Holes.{LineText}
use Rattle.page_pool.specs.Fresh.{IsNew}
use Rattle.page_pool.specs.declared.lane.Lane.{Lane}
use Rattle.time_merge.specs.LaneRows.{HasLayout}
use Rattle.cpu_workers.specs.Formats.{IsFormatted}

-- those of a pool have its layout
pub new_layouts : (layout : Layout) (text : ℕ) (lent lanes : List Lane) → lent ≡ lanes → All (IsNew layout text) lanes → All (HasLayout layout) lent
new_layouts layout text lent lanes is new = subst (λ (ls : List Lane). All (HasLayout layout) ls) (sym is) (All-weaker (IsNew layout text) (HasLayout layout) (λ a n. n.layout_is) lanes new)

-- so that their sub-buffers have one length
pub one_page : (layout : Layout) (lanes : List Lane) → All (HasLayout layout) lanes → All (λ (a : Lane). a.layout.page ≡ layout.page) lanes
one_page layout lanes same = All-weaker (HasLayout layout) (λ (a : Lane). a.layout.page ≡ layout.page) (λ a is. ap (λ (l : Layout). l.page) is) lanes same

-- which they keep where they are formatted
pub page_kept : (text : ℕ → ItemData → LineText) (page : ℕ) (before now : List Lane) → length now ≡ length before
    → ((i : ℕ) (d : Lane) → i < length before → IsFormatted text (get_or before i d) (get_or now i d))
    → All (λ (a : Lane). a.layout.page ≡ page) before → All (λ (a : Lane). a.layout.page ≡ page) now
page_kept text page before now long each all = λ i d lt.
    let inside : i < length before = omega (arith, lt, long) in
    ap (λ (l : Layout). l.page) (each i d inside).keeps.layout ∙ all i d inside
