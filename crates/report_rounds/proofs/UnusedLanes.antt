-- Lanes of which nothing was used, and their room for lines.
use Rattle.std.proofs.Common.{◌≡◌, ℕ, ◌≤◌, List, length, refl, sym, ap, subst, ◌∙◌, arith}
use Rattle.std.specs.List.{All}
use Rattle.std.proofs.lemmas.List.{length-replicate}
use Rattle.std.proofs.lemmas.List.Elements.{All-weaker}
use Rattle.trace_base.specs.declared.layout.Layout.{Layout}
use Rattle.subpage.specs.ItemData.{ItemData}
use Rattle.line_holes.specs.Holes.{LineText}
use Rattle.page_pool.specs.Lines.{Lines}
use Rattle.page_pool.specs.declared.lane.Lane.{Lane}
use Rattle.time_merge.specs.Unused.{IsUnused}
use Rattle.round_print.specs.Prints.{IsTidy}
use Rattle.report_rounds.specs.Between.{HasRoom, IsAtStart}

at_start : (l : Layout) (room : ℕ) (a : Lane) → IsUnused l room a → IsAtStart l a
at_start l room a unused = record {
  cursor = unused.fresh;
  layout_is = unused.layout_is;
  kept = ap (λ (r : Lines). r.kept) unused.region.1;
  tidy = subst IsTidy (sym unused.region.1) (record { used = λ e. refl; free = λ e. refl });
}

pub unused_start : (l : Layout) (room : ℕ) (lanes : List Lane) → All (IsUnused l room) lanes → All (IsAtStart l) lanes
unused_start l room lanes all = All-weaker (IsUnused l room) (IsAtStart l) (at_start l room) lanes all

pub unused_room : (l : Layout) (room : ℕ) (lanes : List Lane) → All (IsUnused l room) lanes → All (λ (lane : Lane). lane.region.room ≡ room) lanes
unused_room l room lanes all =
    All-weaker (IsUnused l room) (λ (lane : Lane). lane.region.room ≡ room) (λ a unused. ap (λ (r : Lines). r.room) unused.region.1 ∙ length-replicate room 0) lanes all

-- regions of so many bytes have room for lines of at most so many
pub all_room : (text : ℕ → ItemData → LineText) (room : ℕ) (lanes : List Lane) → All (λ (lane : Lane). lane.region.room ≡ room) lanes
    → ((cpu : ℕ) → (item : ItemData) → length (text cpu item).bytes ≤ room) → All (HasRoom text) lanes
all_room text room lanes all wide =
    All-weaker (λ (lane : Lane). lane.region.room ≡ room) (HasRoom text) (λ a is cpu item. omega (arith, wide cpu item, is)) lanes all
