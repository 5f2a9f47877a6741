-- The lanes of lists, one list after another.
use Rattle.std.proofs.Common.{◌≡◌, ℕ, zero, suc, ◌-◌, ◌<◌, Bool, true, false, if◌then◌else◌, List, [], ◌∷◌, ◌++◌, length, get_or, map, sum_by, inl, inr, refl, sym, ap, subst, ◌∙◌, append-nil, arith}
use Rattle.std.specs.List.{All}
use Rattle.std.proofs.lemmas.Bool.{cases_lt}
use Rattle.std.proofs.lemmas.List.{drop_at, get_or-append_right, get_or_append_left, length-append, map-append, take_at}
use Rattle.std.proofs.lemmas.List.Elements.{All-append, All-cons, All-drop, All-head, All-nil, All-tail, All-take}
use Rattle.std.proofs.lemmas.List.Sums.{sum_by-append, sum_by-cons}
use Rattle.trace_base.specs.declared.layout.Layout.{Layout}
use Rattle.trace_base.specs.declared.part.Part.{Part}
use Rattle.subpage.specs.Arrangement.{Keyed}
use Rattle.page_pool.specs.declared.lane.Lane.{Lane}
use Rattle.time_merge.specs.Advancing.{Advances}
use Rattle.time_merge.specs.LaneRows.{HasLayout, parts_of, row_of, rows_of}
use Rattle.time_merge.specs.Rows.{Row}
use Rattle.time_merge.proofs.Advancing.{same_length}
use Rattle.split_passes.specs.ListSeen.{ListSeen}
use Rattle.split_tool.specs.Going.{ListGoes}
use Rattle.split_tool.specs.Lists.{AreGroups, EachList, lanes_of}
use Rattle.split_tool.specs.Work.{HasOwnLayouts}
use Rattle.split_tool.proofs.Beginning.{single}
use Rattle.split_tool.proofs.OneByOne.{One, one_of}

pub sum_flat : (f : Lane → ℕ) (lists : List ListSeen) → sum_by f (lanes_of lists) ≡ sum_by (λ (x : ListSeen). sum_by f x.all) lists
sum_flat f [] = refl
sum_flat f (x ∷ lists) =
    omega (arith, sum_by-append f x.all (lanes_of lists), sum_by-cons (λ (y : ListSeen). sum_by f y.all) x lists, sum_flat f lists)

abbrev pub AllIn : (Lane → Type 0) → ListSeen → Type 0
AllIn P x = All P x.all

pub all_flat : (P : Lane → Type 0) (lists : List ListSeen) → All (AllIn P) lists → All P (lanes_of lists)
all_flat P [] a = All-nil P
all_flat P (x ∷ lists) a = All-append P x.all (lanes_of lists) (All-head (AllIn P) x lists a) (all_flat P lists (All-tail (AllIn P) x lists a))

pub flat_all : (P : Lane → Type 0) (lists : List ListSeen) → All P (lanes_of lists) → All (AllIn P) lists
flat_all P [] a = All-nil (AllIn P)
flat_all P (x ∷ lists) a =
    let front : All P x.all = subst (All P) (take_at x.all (lanes_of lists) (length x.all) refl) (All-take P (length x.all) (x.all ++ lanes_of lists) a) in
    let back : All P (lanes_of lists) = subst (All P) (drop_at x.all (lanes_of lists) (length x.all) refl) (All-drop P (length x.all) (x.all ++ lanes_of lists) a) in
    All-cons (AllIn P) x lists front (flat_all P lists back)

-- LISTS THAT WENT ON

pub each_tail : (P : ListSeen → ListSeen → Type 0) (a b : ListSeen) (first now : List ListSeen) → EachList P (a ∷ first) (b ∷ now) → EachList P first now
each_tail P a b first now each j d lt = each (suc j) d (omega (arith, lt))

-- a list keeps the layout and the parts of its lanes
abbrev pub Kept : ListSeen → ListSeen → Type 0
Kept x y = (y.layout ≡ x.layout) × (parts_of y.all ≡ parts_of x.all)

pub goes_kept : (first now : List ListSeen) → EachList ListGoes first now → EachList Kept first now
goes_kept first now each j d lt = let on = each j d lt in (on.layout, on.parts)

pub parts_kept : (first now : List ListSeen) → length now ≡ length first → EachList Kept first now → parts_of (lanes_of now) ≡ parts_of (lanes_of first)
parts_kept [] [] long each = refl
parts_kept [] (b ∷ now) long each = absurd (omega (arith, long))
parts_kept (a ∷ first) [] long each = absurd (omega (arith, long))
parts_kept (a ∷ first) (b ∷ now) long each =
    let made : Lane → ℕ × Part = λ lane. (lane.cpu, lane.part) in
    map-append made b.all (lanes_of now)
    ∙ ap (λ (ps : List (ℕ × Part)). ps ++ parts_of (lanes_of now)) (each 0 a (omega arith)).1
    ∙ ap (λ (ps : List (ℕ × Part)). parts_of a.all ++ ps) (parts_kept first now (omega (arith, long)) (each_tail Kept a b first now each))
    ∙ sym (map-append made a.all (lanes_of first))

pub parts_flat : (first now : List ListSeen) → length now ≡ length first → EachList ListGoes first now → parts_of (lanes_of now) ≡ parts_of (lanes_of first)
parts_flat first now long each = parts_kept first now long (goes_kept first now each)

pub advance_flat : (first now : List ListSeen) → length now ≡ length first → EachList ListGoes first now
    → (j : ℕ) (d : Lane) → j < length (lanes_of first) → Advances (get_or (lanes_of first) j d) (get_or (lanes_of now) j d)
advance_flat [] now long each j d lt = absurd (omega (arith, lt))
advance_flat (a ∷ first) [] long each j d lt = absurd (omega (arith, long))
advance_flat (a ∷ first) (b ∷ now) long each j d lt =
    let one = each 0 a (omega arith) in
    let same : length b.all ≡ length a.all = same_length b.all a.all one.parts in
    elim (cases_lt j (length a.all)) [
      | inl less ↦
          subst (λ (x : Lane). Advances x (get_or (b.all ++ lanes_of now) j d)) (sym (get_or_append_left a.all (lanes_of first) d j less))
          (subst (Advances (get_or a.all j d)) (sym (get_or_append_left b.all (lanes_of now) d j (omega (arith, less, same)))) (one.advance j d less))
      | inr le ↦
          let rest : j - length a.all < length (lanes_of first) = omega (arith, lt, le, length-append a.all (lanes_of first)) in
          let back : get_or (b.all ++ lanes_of now) j d ≡ get_or (lanes_of now) (j - length a.all) d =
          get_or-append_right b.all (lanes_of now) (length a.all) j d same le in
          subst (λ (x : Lane). Advances x (get_or (b.all ++ lanes_of now) j d)) (sym (get_or-append_right a.all (lanes_of first) (length a.all) j d refl le))
          (subst (Advances (get_or (lanes_of first) (j - length a.all) d)) (sym back) (advance_flat first now (omega (arith, long)) (each_tail ListGoes a b first now each) (j - length a.all) d rest))
    ]

-- GROUPS

abbrev pub rows_in : List ℕ → ListSeen → List (Row Keyed)
rows_in file x = rows_of file x.all

singles_are : (file : List ℕ) (lists : List ListSeen) → AreGroups true lists → map single (rows_of file (lanes_of lists)) ≡ map (rows_in file) lists
singles_are file [] g = refl
singles_are file (x ∷ lists) g =
    let one : One x.all = one_of x.all (All-head (λ (y : ListSeen). length y.all ≡ 1) x lists g) in
    ap (λ (ls : List Lane). map single (rows_of file (ls ++ lanes_of lists))) one.is
    ∙ ap (λ (gs : List (List (Row Keyed))). single (row_of file one.item) ∷ gs) (singles_are file lists (All-tail (λ (y : ListSeen). length y.all ≡ 1) x lists g))
    ∙ ap (λ (ls : List Lane). rows_of file ls ∷ map (rows_in file) lists) (sym one.is)

whole_is : (file : List ℕ) (lists : List ListSeen) → AreGroups false lists → rows_of file (lanes_of lists) ∷ [] ≡ map (rows_in file) lists
whole_is file [] g = absurd (omega (arith, g))
whole_is file (x ∷ y ∷ lists) g = absurd (omega (arith, g))
whole_is file (x ∷ []) g = ap (λ (ls : List Lane). rows_of file ls ∷ []) (append-nil x.all)

-- the rows of lists in groups are those of each
pub groups_are : (file : List ℕ) (b : Bool) (lists : List ListSeen) → AreGroups b lists
    → (if b then map single (rows_of file (lanes_of lists)) else rows_of file (lanes_of lists) ∷ []) ≡ map (rows_in file) lists
groups_are file true lists g = singles_are file lists g
groups_are file false lists g = whole_is file lists g

-- the groups stay where lists go on
pub groups_kept : (b : Bool) (first now : List ListSeen) → length now ≡ length first → EachList Kept first now → AreGroups b first → AreGroups b now
groups_kept false first now long each g = long ∙ g
groups_kept true first now long each g = λ i d lt.
    let inside : i < length first = omega (arith, lt, long) in
    same_length (get_or now i d).all (get_or first i d).all (each i d inside).1 ∙ g i d inside

pub groups_stay : (b : Bool) (first now : List ListSeen) → length now ≡ length first → EachList ListGoes first now → AreGroups b first → AreGroups b now
groups_stay b first now long each g = groups_kept b first now long (goes_kept first now each) g

-- the lane of a list by itself
pub single_at : (lists : List ListSeen) (k i : ℕ) (e : ListSeen) (d : Lane) → AreGroups true lists → k < length lists → i < length (get_or lists k e).all
    → (get_or (lanes_of lists) k d ≡ get_or (get_or lists k e).all i d) × ((get_or lists k e).all ≡ get_or (get_or lists k e).all i d ∷ [])
single_at [] k i e d g lt lt2 = absurd (omega (arith, lt))
single_at (x ∷ lists) zero i e d g lt lt2 =
    let one : One x.all = one_of x.all (All-head (λ (y : ListSeen). length y.all ≡ 1) x lists g) in
    let long : length x.all ≡ 1 = ap length one.is in
    let at : i ≡ 0 = omega (arith, lt2, long) in
    let here : get_or x.all i d ≡ one.item = ap (λ (n : ℕ). get_or x.all n d) at ∙ ap (λ (ls : List Lane). get_or ls 0 d) one.is in
    (ap (λ (ls : List Lane). get_or (ls ++ lanes_of lists) 0 d) one.is ∙ sym here, one.is ∙ ap (λ (a : Lane). a ∷ []) (sym here))
single_at (x ∷ lists) (suc k) i e d g lt lt2 =
    let one : One x.all = one_of x.all (All-head (λ (y : ListSeen). length y.all ≡ 1) x lists g) in
    let more = single_at lists k i e d (All-tail (λ (y : ListSeen). length y.all ≡ 1) x lists g) (omega (arith, lt)) lt2 in
    (ap (λ (ls : List Lane). get_or (ls ++ lanes_of lists) (suc k) d) one.is ∙ more.0, more.1)

-- lanes of lists that have this layout, whose own lanes have theirs
pub own_layouts : (l : Layout) (lists : List ListSeen) → All (λ (x : ListSeen). x.layout ≡ l) lists → All HasOwnLayouts lists → All (HasLayout l) (lanes_of lists)
own_layouts l lists layouts own = all_flat (HasLayout l) lists (λ k e lt i d inside. own k e lt i d inside ∙ layouts k e lt)

-- they keep it
pub go_layouts : (l : Layout) (first now : List ListSeen) → length now ≡ length first → EachList ListGoes first now → All (HasLayout l) (lanes_of first) → All (HasLayout l) (lanes_of now)
go_layouts l first now long goes layouts i d lt =
    let inside : i < length (lanes_of first) = omega (arith, lt, same_length (lanes_of now) (lanes_of first) (parts_flat first now long goes)) in
    (advance_flat first now long goes i d inside).layout ∙ layouts i d inside
