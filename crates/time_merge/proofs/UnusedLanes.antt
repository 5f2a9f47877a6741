-- Lanes that are given their processors, one after another.
use Rattle.std.proofs.Common.{◌≡◌, ℕ, ◌+◌, ◌<◌, ◌≤◌, arith, List, [], ◌∷◌, ◌++◌, length, get_or, set, take, sym, ap, subst, ◌∙◌}
use Rattle.std.specs.List.{All}
use Rattle.std.proofs.lemmas.List.{map-append, take_all, take_more, take_more_set}
use Rattle.std.proofs.lemmas.List.Elements.{All-set, All-get_or, All-weaker}
use Rattle.trace_base.specs.declared.layout.Layout.{Layout}
use Rattle.trace_base.specs.declared.part.Part.{Part}
use Rattle.page_pool.specs.Fresh.{IsFresh, IsNew}
use Rattle.page_pool.specs.declared.lane.Lane.{Lane}
use Rattle.time_merge.specs.LaneRows.{HasLayout, parts_of}
use Rattle.time_merge.specs.Unused.{IsUnused}

-- one more lane has its processor and its part
pub one_set : (lanes : List Lane) (parts : List (ℕ × Part)) (i : ℕ) (lane : Lane) (d : ℕ × Part) → i < length lanes → i < length parts
    → lane.cpu ≡ (get_or parts i d).0 → lane.part ≡ (get_or parts i d).1 → parts_of (take i lanes) ≡ take i parts
    → parts_of (take (i + 1) (set lanes i lane)) ≡ take (i + 1) parts
one_set lanes parts i lane d inside within cpu there so_far =
    ap parts_of (take_more_set lanes i lane inside)
    ∙ map-append (λ (a : Lane). (a.cpu, a.part)) (take i lanes) (lane ∷ [])
    ∙ ap (λ (ps : List (ℕ × Part)). ps ++ ((lane.cpu, lane.part) ∷ [])) so_far
    ∙ ap (λ (n : ℕ). take i parts ++ ((n, lane.part) ∷ [])) cpu
    ∙ ap (λ (p : Part). take i parts ++ (((get_or parts i d).0, p) ∷ [])) there
    ∙ sym (take_more parts i d within)

-- and is as unused as before
pub still_unused : (layout : Layout) (room : ℕ) (lanes : List Lane) (i : ℕ) (d lane : Lane) → i < length lanes → lane.layout ≡ (get_or lanes i d).layout → lane.cursor ≡ (get_or lanes i d).cursor → lane.page ≡ (get_or lanes i d).page
    → lane.region ≡ (get_or lanes i d).region → All (IsUnused layout room) lanes → All (IsUnused layout room) (set lanes i lane)
still_unused layout room lanes i d lane inside same cursor page region all =
    let was : IsUnused layout room (get_or lanes i d) = All-get_or (IsUnused layout room) lanes i d inside all in
    All-set (IsUnused layout room) lanes i lane record { layout_is = same ∙ was.layout_is; fresh = subst IsFresh (sym cursor) was.fresh; page = page ∙ was.page; region = (was.region.0, region ∙ was.region.1) } all

pub all_set : (lanes : List Lane) (parts : List (ℕ × Part)) (i : ℕ) → length lanes ≡ length parts → length parts ≤ i → parts_of (take i lanes) ≡ take i parts → parts_of lanes ≡ parts
all_set lanes parts i same past so_far =
    ap parts_of (sym (take_all i lanes (omega arith))) ∙ so_far ∙ take_all i parts past

-- a pool's lanes are unused
pub new_unused : (layout : Layout) (room : ℕ) (made lanes : List Lane) → lanes ≡ made → All (IsNew layout room) made → All (IsUnused layout room) lanes
new_unused layout room made lanes are all =
    subst (λ (xs : List Lane). All (IsUnused layout room) xs) (sym are)
    (All-weaker (IsNew layout room) (IsUnused layout room) (λ a new. record { layout_is = new.layout_is; fresh = new.cursor; page = new.page; region = new.region }) made all)

-- and so are those that it lends
pub lent_unused : (layout : Layout) (room : ℕ) (pool lanes : List Lane) → lanes ≡ pool → All (IsUnused layout room) pool → All (IsUnused layout room) lanes
lent_unused layout room pool lanes are all = subst (λ (xs : List Lane). All (IsUnused layout room) xs) (sym are) all

pub unused_fresh : (layout : Layout) (room : ℕ) (lanes : List Lane) → All (IsUnused layout room) lanes → All (λ (a : Lane). IsFresh a.cursor) lanes
unused_fresh layout room lanes all = All-weaker (IsUnused layout room) (λ (a : Lane). IsFresh a.cursor) (λ a unused. unused.fresh) lanes all

pub unused_layouts : (layout : Layout) (room : ℕ) (lanes : List Lane) → All (IsUnused layout room) lanes → All (HasLayout layout) lanes
unused_layouts layout room lanes all = All-weaker (IsUnused layout room) (HasLayout layout) (λ a unused. unused.layout_is) lanes all
