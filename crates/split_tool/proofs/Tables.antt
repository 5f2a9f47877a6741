-- The parts of a new file, processor after processor.
use Rattle.std.proofs.Common.{◌≡◌, ℕ, zero, suc, ◌+◌, ◌-◌, ◌*◌, ◌%◌, ◌^◌, ◌<◌, ◌≤◌, ◌⊎◌, eqb, List, [], ◌∷◌, ◌++◌, length, get_or, set, take, map, refl, sym, ap, subst, ◌∙◌, inl, inr, arith}
use Rattle.std.specs.List.{All, flat_map, range_with_len}
use Rattle.std.proofs.lemmas.Bool.{cases_Bool, cases_eq, eqb-true, eqb-false}
use Rattle.std.proofs.lemmas.Grind.{get_or-set_at}
use Rattle.std.proofs.lemmas.List.{get_or_default, get_or-set_other, take_all}
use Rattle.std.proofs.lemmas.List.Elements.{All-append, All-nil, All-cons, All-head, All-tail, All-weaker}
use Rattle.std.proofs.lemmas.List.FromFn.{map-range_with_len_more}
use Rattle.trace_base.specs.declared.layout.Layout.{Layout}
use Rattle.trace_base.specs.declared.part.Part.{Part}
use Rattle.trace_base.specs.Parts.{part_of}
use Rattle.trace_base.proofs.PartNumbers.{same_part}
use Rattle.subpage.specs.ItemData.{ItemData}
use Rattle.subpage.specs.Arrangement.{Keyed, CpusRise}
use Rattle.page_pool.specs.declared.lane.Lane.{Lane}
use Rattle.page_write.specs.PageBytes.{page_of}
use Rattle.page_write.specs.Pack.{packed, pack}
use Rattle.page_write.specs.Placed.{parts_from}
use Rattle.time_merge.specs.LaneRows.{parts_of}
use Rattle.time_merge.proofs.LaneLaws.{after_above}
use Rattle.split_pieces.specs.Cuts.{items_of_cpu}
use Rattle.split_passes.specs.AllAgain.{owns}
use Rattle.split_passes.specs.Tallies.{IsTally}
use Rattle.split_passes.specs.declared.tally.Tally.{Tally}
use Rattle.split_passes.specs.ListSeen.{ListSeen}
use Rattle.split_tool.specs.Counted.{lists_of, AreCounted, IsSized, LanesCounted}
use Rattle.split_tool.specs.Lists.{lanes_of}
use Rattle.split_tool.proofs.Flat.{flat_all}
use Rattle.split_tool.proofs.Owning.{IsAfter, IsNotLane}
use Rattle.split_passes.proofs.Running.{rises_tail}

-- SIZES

abbrev pub size_in : Layout → List (List ItemData) → ℕ
size_in l [] = 0
size_in l (xs ∷ lists) = length (packed l xs) * l.page + size_in l lists

pub size_push : (l : Layout) (lists : List (List ItemData)) (xs : List ItemData) → size_in l (lists ++ xs ∷ []) ≡ size_in l lists + length (packed l xs) * l.page
size_push l [] xs = omega arith
size_push l (ys ∷ lists) xs = omega (arith, size_push l lists xs)

pub parts_push : (l : Layout) (at : ℕ) (lists : List (List ItemData)) (xs : List ItemData)
    → parts_from l at (lists ++ xs ∷ []) ≡ parts_from l at lists ++ part_of (at + size_in l lists) (length (packed l xs) * l.page) ∷ []
unfolding parts_from
parts_push l at [] xs = ap (λ (n : ℕ). part_of n (length (packed l xs) * l.page) ∷ []) (omega arith)
parts_push l at (ys ∷ lists) xs =
    let size = length (packed l ys) * l.page in
    ap (λ (ps : List Part). part_of at size ∷ ps)
    (parts_push l (at + size) lists xs ∙ ap (λ (n : ℕ). parts_from l (at + size) lists ++ part_of n (length (packed l xs) * l.page) ∷ []) (omega arith))

-- ONE PROCESSOR MORE

pub lists_more : (n : ℕ) (xs : List Keyed) → lists_of (n + 1) xs ≡ lists_of n xs ++ items_of_cpu n xs ∷ []
lists_more n xs = map-range_with_len_more (λ cpu. items_of_cpu cpu xs) 0 n n (omega arith)

fewer_by : (l : Layout) (xs : List Keyed) (n m : ℕ) → size_in l (lists_of n xs) ≤ size_in l (lists_of (n + m) xs)
fewer_by l xs n zero =
    let same : size_in l (lists_of n xs) ≡ size_in l (lists_of (n + 0) xs) = ap (λ (k : ℕ). size_in l (lists_of k xs)) (omega arith) in
    omega (arith, same)
fewer_by l xs n (suc m) =
    let more : size_in l (lists_of (n + suc m) xs) ≡ size_in l (lists_of (n + m) xs ++ items_of_cpu (n + m) xs ∷ []) =
    ap (λ (k : ℕ). size_in l (lists_of k xs)) (omega arith) ∙ ap (size_in l) (lists_more (n + m) xs) in
    omega (arith, more, size_push l (lists_of (n + m) xs) (items_of_cpu (n + m) xs), fewer_by l xs n m)

pub size_upto : (l : Layout) (xs : List Keyed) (n cpus : ℕ) → n ≤ cpus → size_in l (lists_of n xs) ≤ size_in l (lists_of cpus xs)
size_upto l xs n cpus le =
    let same : size_in l (lists_of (n + (cpus - n)) xs) ≡ size_in l (lists_of cpus xs) = ap (λ (k : ℕ). size_in l (lists_of k xs)) (omega (arith, le)) in
    omega (arith, same, fewer_by l xs n (cpus - n))

-- the table has the parts of so many processors, and this is the place after them, modulo 2^64
pub record FilledTo (l : Layout) (at : ℕ) (n : ℕ) (xs : List Keyed) (place : ℕ) (table : List Part) : Type 0 where
  pub place_is : place ≡ (at + size_in l (lists_of n xs)) % 2 ^ 64
  pub parts : take n table ≡ parts_from l at (lists_of n xs)

pub filled_none : (l : Layout) (at place : ℕ) (xs : List Keyed) (table : List Part) → place ≡ at % 2 ^ 64 → FilledTo l at 0 xs place table
unfolding parts_from
filled_none l at place xs table is = record { place_is = omega (arith, is); parts = refl }

take_set_more : (table : List Part) (n : ℕ) (part : Part) → n < length table → take (n + 1) (set table n part) ≡ take n table ++ part ∷ []
take_set_more [] n part lt = absurd (omega (arith, lt))
take_set_more (p ∷ table) zero part lt = refl
take_set_more (p ∷ table) (suc n) part lt =
    let further : suc n + 1 ≡ suc (n + 1) = omega arith in
    ap (λ (m : ℕ). take m (p ∷ set table n part)) further ∙ ap (λ (ps : List Part). p ∷ ps) (take_set_more table n part (omega (arith, lt)))

pub filled_more : (l : Layout) (at n : ℕ) (xs : List Keyed) (place after : ℕ) (part : Part) (table : List Part) → n < length table
    → part.offset ≡ place → part.size ≡ (length (packed l (items_of_cpu n xs)) * l.page) % 2 ^ 64 → after ≡ (place + part.size) % 2 ^ 64 → FilledTo l at n xs place table
    → FilledTo l at (n + 1) xs after (set table n part)
unfolding part_of
filled_more l at n xs place after part table lt offset_is size_is after_is f =
    let lists = lists_of n xs in
    let mine = items_of_cpu n xs in
    let more : size_in l (lists_of (n + 1) xs) ≡ size_in l (lists ++ mine ∷ []) = ap (size_in l) (lists_more n xs) in
    let own : part ≡ part_of (at + size_in l lists) (length (packed l mine) * l.page) =
    same_part part (part_of (at + size_in l lists) (length (packed l mine) * l.page)) (offset_is ∙ f.place_is) size_is in
    record {
      place_is = omega (arith, more, size_push l lists mine, size_is, after_is, f.place_is);
      parts = take_set_more table n part lt
          ∙ ap (λ (ps : List Part). ps ++ part ∷ []) f.parts
          ∙ ap (λ (p : Part). parts_from l at lists ++ p ∷ []) own
          ∙ sym (parts_push l at lists mine)
          ∙ ap (parts_from l at) (sym (lists_more n xs));
    }

-- THE BYTES

pub packed_nil : (l : Layout) → packed l [] ≡ []
unfolding packed
packed_nil l = refl

pub pack_nil : (l : Layout) → pack l [] ≡ []
unfolding pack
pack_nil l = ap (flat_map (page_of l)) (packed_nil l)

abbrev pub IsFrom : ℕ → Lane → Type 0
IsFrom k a = k ≤ a.cpu

abbrev pub IsBelow : ℕ → Lane → Type 0
IsBelow n a = a.cpu < n

-- the lanes' own items are those of all processors
pub same_data : (l : Layout) (xs : List Keyed) (n k : ℕ) (lanes : List Lane) → CpusRise (parts_of lanes) → All (IsFrom k) lanes → All (IsBelow (k + n)) lanes
    → ((c : ℕ) → k ≤ c → All (IsNotLane c) lanes → items_of_cpu c xs ≡ [])
    → flat_map (pack l) (owns lanes xs) ≡ flat_map (pack l) (map (λ c. items_of_cpu c xs) (range_with_len k n))
same_data l xs zero k [] rise least most none = refl
same_data l xs zero k (a ∷ lanes) rise least most none = absurd (omega (arith, All-head (IsFrom k) a lanes least, All-head (IsBelow (k + 0)) a lanes most))
same_data l xs (suc n) k [] rise least most none =
    let more = flat_map (pack l) (map (λ c. items_of_cpu c xs) (range_with_len (k + 1) n)) in
    let here : pack l (items_of_cpu k xs) ≡ [] = ap (pack l) (none k (omega arith) (All-nil (IsNotLane k))) ∙ pack_nil l in
    same_data l xs n (k + 1) [] tt (All-nil (IsFrom (k + 1))) (All-nil (IsBelow (k + 1 + n))) (λ c le a. none c (omega (arith, le)) a) ∙ ap (λ (bytes : List ℕ). bytes ++ more) (sym here)
same_data l xs (suc n) k (a ∷ lanes) rise least most none = elim (cases_Bool (eqb a.cpu k)) [
  | inl b ↦
      let same : a.cpu ≡ k = eqb-true a.cpu k b in
      ap (λ (c : ℕ). pack l (items_of_cpu c xs) ++ flat_map (pack l) (owns lanes xs)) same
      ∙ ap (λ (bytes : List ℕ). pack l (items_of_cpu k xs) ++ bytes) (same_data l xs n (k + 1) lanes (rises_tail a lanes rise)
      (All-weaker (IsAfter a.cpu) (IsFrom (k + 1)) (λ x lt. omega (arith, lt, same)) lanes (after_above a lanes rise))
      (All-weaker (IsBelow (k + suc n)) (IsBelow (k + 1 + n)) (λ x lt. omega (arith, lt)) lanes (All-tail (IsBelow (k + suc n)) a lanes most))
      (λ c le others. none c (omega (arith, le)) (All-cons (IsNotLane c) a lanes (λ e. omega (arith, e, same, le)) others)))
  | inr b ↦
      let other : a.cpu ≡ k → ⊥ = eqb-false a.cpu k b in
      let least_here : IsFrom k a = All-head (IsFrom k) a lanes least in
      let later : All (IsFrom (k + 1)) (a ∷ lanes) =
      All-cons (IsFrom (k + 1)) a lanes (omega (arith, least_here, other)) (All-weaker (IsAfter a.cpu) (IsFrom (k + 1)) (λ x lt. omega (arith, lt, least_here)) lanes (after_above a lanes rise)) in
      let here : pack l (items_of_cpu k xs) ≡ [] = ap (pack l) (none k (omega arith) (All-weaker (IsFrom (k + 1)) (IsNotLane k) (λ x le e. omega (arith, le, e)) (a ∷ lanes) later)) ∙ pack_nil l in
      let more = flat_map (pack l) (map (λ c. items_of_cpu c xs) (range_with_len (k + 1) n)) in
      same_data l xs n (k + 1) (a ∷ lanes) rise later
      (All-weaker (IsBelow (k + suc n)) (IsBelow (k + 1 + n)) (λ x lt. omega (arith, lt)) (a ∷ lanes) most)
      (λ c le others. none c (omega (arith, le)) others)
      ∙ ap (λ (bytes : List ℕ). bytes ++ more) (sym here)
]

-- SIZES OF A TABLE

pub want : Layout → List Keyed → ℕ → ℕ
want l xs c = (length (packed l (items_of_cpu c xs)) * l.page) % 2 ^ 64

pub none_sized : (l : Layout) (xs : List Keyed) (table : List Part) (c : ℕ) → items_of_cpu c xs ≡ [] → ((p : Part) → (get_or table c p).size ≡ 0) → IsSized l xs table c
none_sized l xs table c none zeros p =
    let empty : length (packed l (items_of_cpu c xs)) ≡ 0 = ap (λ (ys : List ItemData). length (packed l ys)) none ∙ ap length (packed_nil l) in
    let zero_size : 0 ≡ (0 * l.page) % 2 ^ 64 = omega arith in
    zeros p ∙ zero_size ∙ ap (λ (n : ℕ). (n * l.page) % 2 ^ 64) (sym empty)

pub sized_there : (l : Layout) (xs : List Keyed) (table : List Part) (c : ℕ) (part : Part) → c < length table → part.size ≡ (length (packed l (items_of_cpu c xs)) * l.page) % 2 ^ 64 → IsSized l xs (set table c part) c
sized_there l xs table c part lt is p = ap (λ (q : Part). q.size) (get_or-set_at table c c part p refl lt) ∙ is

pub sized_still : (l : Layout) (xs : List Keyed) (table : List Part) (c e : ℕ) (part : Part) → c < length table → part.size ≡ (length (packed l (items_of_cpu c xs)) * l.page) % 2 ^ 64 → IsSized l xs table e → IsSized l xs (set table c part) e
sized_still l xs table c e part lt is sized = elim (cases_Bool (eqb e c)) [
  | inl b ↦ let same : e ≡ c = eqb-true e c b in subst (IsSized l xs (set table c part)) (sym same) (sized_there l xs table c part lt is)
  | inr b ↦ λ p. ap (λ (q : Part). q.size) (get_or-set_other table c e part p (eqb-false e c b)) ∙ sized p
]

-- after the lane at hand those up to it have their sizes
pub sized_so_far : (l : Layout) (xs : List Keyed) (lanes : List Lane) (table : List Part) (i j : ℕ) (a d : Lane) (part : Part) → a.cpu < length table → a ≡ get_or lanes i d
    → part.size ≡ (length (packed l (items_of_cpu a.cpu xs)) * l.page) % 2 ^ 64 → j < i + 1 → (j < i → IsSized l xs table (get_or lanes j d).cpu) → IsSized l xs (set table a.cpu part) (get_or lanes j d).cpu
sized_so_far l xs lanes table i j a d part lt here is inside before = elim (cases_eq j i) [
  | inl same ↦
      let there : a ≡ get_or lanes j d = here ∙ ap (λ (k : ℕ). get_or lanes k d) (sym same) in
      subst (λ (b : Lane). IsSized l xs (set table a.cpu part) b.cpu) there (sized_there l xs table a.cpu part lt is)
  | inr other ↦ sized_still l xs table a.cpu (get_or lanes j d).cpu part lt is (before (omega (arith, inside, other)))
]

pub cleared_more : (table : List Part) (i : ℕ) (part : Part) → i < length table → part.size ≡ 0 → ((j : ℕ) (p : Part) → j < i → (get_or table j p).size ≡ 0)
    → (j : ℕ) (p : Part) → j < i + 1 → (get_or (set table i part) j p).size ≡ 0
cleared_more table i part lt empty none j p inside = elim (cases_Bool (eqb j i)) [
  | inl b ↦ ap (λ (q : Part). q.size) (get_or-set_at table i j part p (eqb-true j i b) lt) ∙ empty
  | inr b ↦
      let other = eqb-false j i b in
      ap (λ (q : Part). q.size) (get_or-set_other table i j part p other) ∙ none j p (omega (arith, inside, other))
]

-- the size of the lane at hand
pub lane_size : (l : Layout) (lanes : List Lane) (tallies : List Tally) (xs : List Keyed) (i : ℕ) (a : Lane) (t : Tally) (pages : ℕ) → i < length lanes → a ≡ get_or lanes i a → t ≡ get_or tallies i t
    → ((ys : List ItemData) → length ys < 2 ^ 63 → IsTally l t ys → pages ≡ length (packed l ys)) → LanesCounted l lanes tallies xs
    → (pages * l.page) % 2 ^ 64 ≡ (length (packed l (items_of_cpu a.cpu xs)) * l.page) % 2 ^ 64
lane_size l lanes tallies xs i a t pages lt here is known counted =
    let told : (length (items_of_cpu a.cpu xs) < 2 ^ 63) × IsTally l t (items_of_cpu a.cpu xs) =
    subst (λ (b : Lane). (length (items_of_cpu b.cpu xs) < 2 ^ 63) × IsTally l t (items_of_cpu b.cpu xs)) (sym here)
    (subst (λ (u : Tally). (length (items_of_cpu (get_or lanes i a).cpu xs) < 2 ^ 63) × IsTally l u (items_of_cpu (get_or lanes i a).cpu xs)) (sym is) (counted i a t lt)) in
    ap (λ (n : ℕ). (n * l.page) % 2 ^ 64) (known (items_of_cpu a.cpu xs) told.0 told.1)

-- THE LIST AT HAND

pub lanes_at : (P : Lane → Type 0) (lists : List ListSeen) (i : ℕ) (x : ListSeen) (lanes : List Lane) → All P (lanes_of lists) → i < length lists → x ≡ get_or lists i x → lanes ≡ x.all → All P lanes
lanes_at P lists i x lanes all lt is same = subst (All P) (sym same) (subst (λ (y : ListSeen). All P y.all) (sym is) (flat_all P lists all i x lt))

pub same_lanes : (lists : List ListSeen) (i k : ℕ) (x e : ListSeen) (lanes : List Lane) → k ≡ i → i < length lists → x ≡ get_or lists i x → lanes ≡ x.all → lanes ≡ (get_or lists k e).all
same_lanes lists i k x e lanes same lt is lanes_are =
    lanes_are ∙ ap (λ (y : ListSeen). y.all) (is ∙ get_or_default lists i x e lt ∙ ap (λ (n : ℕ). get_or lists n e) (sym same))

pub counted_at : (l : Layout) (lists : List ListSeen) (xs : List Keyed) (i : ℕ) (x y : ListSeen) (lanes : List Lane) (tallies : List Tally) → AreCounted l lists xs → i < length lists → x ≡ get_or lists i x → y ≡ get_or lists i y
    → lanes ≡ x.all → tallies ≡ y.tallies → LanesCounted l lanes tallies xs
counted_at l lists xs i x y lanes tallies counted lt is is2 lanes_are tallies_are =
    let all : lanes ≡ (get_or lists i x).all = lanes_are ∙ ap (λ (z : ListSeen). z.all) is in
    let own : tallies ≡ (get_or lists i x).tallies = tallies_are ∙ ap (λ (z : ListSeen). z.tallies) (is2 ∙ get_or_default lists i y x lt) in
    subst (λ (ls : List Lane). LanesCounted l ls tallies xs) (sym all) (subst (λ (ts : List Tally). LanesCounted l (get_or lists i x).all ts xs) (sym own) (counted.tallied i x lt))

-- WHETHER A PROCESSOR HAS A LANE

pub record InLanes (c : ℕ) (lanes : List Lane) : Type 0 where
  pub i : ℕ
  pub inside : i < length lanes
  pub is : (d : Lane) → (get_or lanes i d).cpu ≡ c

lane_or_none : (c : ℕ) (lanes : List Lane) → InLanes c lanes ⊎ All (IsNotLane c) lanes
lane_or_none c [] = inr (All-nil (IsNotLane c))
lane_or_none c (a ∷ lanes) = elim (cases_Bool (eqb a.cpu c)) [
  | inl b ↦ inl (record { i = 0; inside = omega arith; is = λ d. eqb-true a.cpu c b })
  | inr b ↦ elim (lane_or_none c lanes) [
    | inl found ↦ inl (record { i = suc found.i; inside = let lt = found.inside in omega (arith, lt); is = found.is })
    | inr none ↦ inr (All-cons (IsNotLane c) a lanes (eqb-false a.cpu c b) none)
  ]
]

pub record InLists (c : ℕ) (lists : List ListSeen) : Type 0 where
  pub k : ℕ
  pub inside : k < length lists
  pub lane : (e : ListSeen) → InLanes c (get_or lists k e).all

pub list_or_none : (c : ℕ) (lists : List ListSeen) → InLists c lists ⊎ All (IsNotLane c) (lanes_of lists)
list_or_none c [] = inr (All-nil (IsNotLane c))
list_or_none c (x ∷ lists) = elim (lane_or_none c x.all) [
  | inl found ↦ inl (record { k = 0; inside = omega arith; lane = λ e. found })
  | inr none ↦ elim (list_or_none c lists) [
    | inl found ↦ inl (record { k = suc found.k; inside = let lt = found.inside in omega (arith, lt); lane = found.lane })
    | inr others ↦ inr (All-append (IsNotLane c) x.all (lanes_of lists) none others)
  ]
]

-- once all lists told their sizes, the table has those of all processors
pub all_sized : (l : Layout) (lists : List ListSeen) (xs : List Keyed) (table : List Part) (n : ℕ) → length lists ≤ n → AreCounted l lists xs
    → ((k : ℕ) (e : ListSeen) (i : ℕ) (d : Lane) → k < n → k < length lists → i < length (get_or lists k e).all → IsSized l xs table (get_or (get_or lists k e).all i d).cpu)
    → ((c : ℕ) → c < length table → items_of_cpu c xs ≡ [] → IsSized l xs table c) → (c : ℕ) → c < length table → IsSized l xs table c
all_sized l [] xs table n enough counted puts zeros c lt = zeros c lt (counted.none_else c (All-nil (IsNotLane c)))
all_sized l (x ∷ more) xs table n enough counted puts zeros c lt = elim (list_or_none c (x ∷ more)) [
  | inl found ↦
      let lane = found.lane x in
      let lt2 = found.inside in
      by_lane (get_or (x ∷ more) found.k x).all lane.i lane.inside lane.is (λ d. puts found.k x lane.i d (omega (arith, lt2, enough)) lt2 lane.inside)
  | inr none ↦ zeros c lt (counted.none_else c none)
]
  where
    by_lane : (lanes : List Lane) (i : ℕ) → i < length lanes → ((d : Lane) → (get_or lanes i d).cpu ≡ c) → ((d : Lane) → IsSized l xs table (get_or lanes i d).cpu) → IsSized l xs table c
    by_lane [] i inside is sized = absurd (omega (arith, inside))
    by_lane (a ∷ lanes) i inside is sized = subst (IsSized l xs table) (is a) (sized a)

pub all_filled : (l : Layout) (at n : ℕ) (xs : List Keyed) (place : ℕ) (table old : List Part) → length table ≡ length old → length old ≤ n → n ≤ length old → FilledTo l at n xs place table → table ≡ parts_from l at (lists_of (length old) xs)
all_filled l at n xs place table old same le ge f =
    let is : n ≡ length old = omega (arith, le, ge) in
    sym (take_all n table (omega (arith, same, le))) ∙ f.parts ∙ ap (λ (k : ℕ). parts_from l at (lists_of k xs)) is
