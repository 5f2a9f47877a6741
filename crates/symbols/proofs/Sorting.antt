-- What a stable sort by numbers leaves.
use Rattle.std.proofs.Common.{◌≡◌, ℕ, suc, ◌+◌, ◌-◌, ◌<◌, ◌≤◌, true, false, not, ◌&&◌, nat_eq, eqb, ltb, List, [], ◌∷◌, ◌++◌, length, take, drop, get_or, refl, sym, ap, subst, ◌∙◌, arith, inl, inr}
use Rattle.std.specs.List.{filter}
use Rattle.std.specs.List.Sorted.{IsNonDecreasingBy, IsPermutation, IsStableByKey, ties}
use Rattle.std.specs.Ordering.{nat_cmp, is_lt}
use Rattle.std.proofs.lemmas.Bool.{cases_Bool, cases_lt, cases_order, lt-ltb, le-ltb, eq-eqb, ne_eqb, eqb-true, eqb-false}
use Rattle.std.proofs.lemmas.List.{append-nil, at_drop_all, get_or_append_left, get_or-append_right, get_or-drop, get_or-take, get_or_default, length-append, length-drop, length-take, take-append-drop, take_all}
use Rattle.std.proofs.lemmas.List.Sorted.{All-permutation}
use borrow.Rule.Slice.PartMut.{mid_of, post_of, put_mid}
use Rattle.symbols.specs.declared.names.Spot.{Spot}
use Rattle.symbols.specs.NameMap.{first_at, SamePairs}
use Rattle.symbols.specs.Names.{spots_view, IsFrom, IsSortedPairs}
use Rattle.symbols.specs.Spots.{AreFirst}

tie_is : (a b : ℕ) → (not (is_lt (nat_cmp a b)) && not (is_lt (nat_cmp b a))) ≡ eqb b a
tie_is a b = elim (cases_order a b) [
  | inl e ↦
      let p : ltb a b ≡ false = le-ltb a b (omega arith) in
      let q : ltb b a ≡ false = le-ltb b a (omega arith) in
      let r : eqb b a ≡ true = eq-eqb b a (sym e) in
      let s : eqb a b ≡ true = eq-eqb a b e in
      rw (p, q, r, s) refl
  | inr d ↦ elim d [
    | inl lt ↦
        let p : ltb a b ≡ true = lt-ltb a b lt in
        let r : eqb b a ≡ false = ne_eqb b a (λ e. omega arith) in
        rw (p, r) refl
    | inr gt ↦
        let p : ltb a b ≡ false = le-ltb a b (omega arith) in
        let q : ltb b a ≡ true = lt-ltb b a gt in
        let r : eqb b a ≡ false = ne_eqb b a (λ e. omega arith) in
        let s : eqb a b ≡ false = ne_eqb a b (λ e. omega arith) in
        rw (p, q, r, s) refl
  ]
]

abbrev pub spot_key : Spot → ℕ
spot_key spot = spot.key

-- the pairs with this number are enough to find it
first_among : (block : List ℕ) (z : Spot) (xs : List Spot) → first_at z.key (spots_view block (filter (ties (λ x y. is_lt (nat_cmp (spot_key x) (spot_key y))) z) xs)) ≡ first_at z.key (spots_view block xs)
first_among block z [] = refl
first_among block z (x ∷ xs) = elim (cases_Bool (nat_eq z.key x.key)) as (λ _. first_at z.key (spots_view block (filter (ties (λ x y. is_lt (nat_cmp x.key y.key)) z) (x ∷ xs))) ≡ first_at z.key (spots_view block (x ∷ xs))) [
  | inl here ↦ rw (tie_is z.key x.key, eq-eqb x.key z.key (sym (eqb-true z.key x.key here)), here) refl
  | inr apart ↦ rw (tie_is z.key x.key, ne_eqb x.key z.key (λ same. eqb-false z.key x.key apart (sym same)), apart) (first_among block z xs)
]

pub same_sorted : (block : List ℕ) (xs ys : List Spot) → length ys ≡ length xs → IsStableByKey spot_key nat_cmp xs ys → SamePairs (spots_view block xs) (spots_view block ys)
same_sorted block [] [] long stable key = refl
same_sorted block [] (y ∷ ys) long stable key = absurd (omega (arith, long))
same_sorted block (x ∷ xs) ys long stable key =
    let z : Spot = record { key = key; span = x.span } in
    sym (first_among block z ys) ∙ ap (λ (l : List Spot). first_at key (spots_view block l)) (stable z) ∙ first_among block z (x ∷ xs)

from : (block : List ℕ) (xs : List Spot) → IsNonDecreasingBy spot_key xs → (low : ℕ) → ((d : Spot) → 0 < length xs → low ≤ spot_key (get_or xs 0 d)) → IsFrom low (spots_view block xs)
from block [] up low h = tt
from block (x ∷ xs) up low h = (h x (omega arith), from block xs (λ i j d le less. up (suc i) (suc j) d (omega arith) (omega arith)) x.key (λ d less. up 0 1 d (omega arith) (omega arith)))

pub rises_sorted : (block : List ℕ) (ys : List Spot) → IsNonDecreasingBy spot_key ys → IsSortedPairs (spots_view block ys)
rises_sorted block ys up = from block ys up 0 (λ d less. omega arith)

-- a sort of what follows the first few
at_front : (xs late : List Spot) (n i : ℕ) (d : Spot) → n ≤ length xs → i < n → get_or (take n xs ++ late) i d ≡ get_or xs i d
at_front xs late n i d inside less = get_or_append_left (take n xs) late d i (omega (arith, length-take n xs, inside, less)) ∙ get_or-take n xs i d less

at_late : (xs late : List Spot) (n i : ℕ) (d : Spot) → n ≤ length xs → n ≤ i → get_or (take n xs ++ late) i d ≡ get_or late (i - n) d
at_late xs late n i d inside le = get_or-append_right (take n xs) late n i d (omega (arith, length-take n xs, inside)) le

front_below : (xs late : List Spot) (n i j : ℕ) (d : Spot) → AreFirst xs n → IsPermutation (drop n xs) late → i < n → j < length late → spot_key (get_or xs i d) ≤ spot_key (get_or late j d)
front_below xs late n i j d first moved less inside =
    All-permutation (λ (s : Spot). spot_key (get_or xs i d) ≤ spot_key s) (drop n xs) late moved (λ k e within.
    let there : n + k < length xs = omega (arith, within, length-drop n xs) in
    let same : spot_key (get_or xs i e) ≡ spot_key (get_or xs i d) = ap spot_key (get_or_default xs i e d (omega (arith, less, first.within))) in
    let far : spot_key (get_or (drop n xs) k e) ≡ spot_key (get_or xs (n + k) e) = ap spot_key (get_or-drop n xs k e) in
    omega (arith, same, far, first.below i (n + k) e less (omega (arith, less)) there)) j d inside

rises_late : (xs late : List Spot) (n : ℕ) → AreFirst xs n → IsPermutation (drop n xs) late → IsNonDecreasingBy spot_key late → IsNonDecreasingBy spot_key (take n xs ++ late)
rises_late xs late n first moved up i j d le less =
    let long : length (take n xs ++ late) ≡ n + length late = omega (arith, length-append (take n xs) late, length-take n xs, first.within) in
    elim (cases_lt j n) as (λ _. spot_key (get_or (take n xs ++ late) i d) ≤ spot_key (get_or (take n xs ++ late) j d)) [
      | inl before ↦ omega (
        arith,
        ap spot_key (at_front xs late n i d first.within (omega (arith, le, before))),
        ap spot_key (at_front xs late n j d first.within before),
        first.below i j d (omega (arith, le, before)) le (omega (arith, before, first.within)),
      )
      | inr past ↦ elim (cases_lt i n) as (λ _. spot_key (get_or (take n xs ++ late) i d) ≤ spot_key (get_or (take n xs ++ late) j d)) [
        | inl before ↦ omega (
          arith,
          ap spot_key (at_front xs late n i d first.within before),
          ap spot_key (at_late xs late n j d first.within past),
          front_below xs late n i (j - n) d first moved before (omega (arith, past, less, long)),
        )
        | inr both ↦ omega (
          arith,
          ap spot_key (at_late xs late n i d first.within both),
          ap spot_key (at_late xs late n j d first.within past),
          up (i - n) (j - n) d (omega (arith, both, le)) (omega (arith, past, less, long)),
        )
      ]
    ]

same_behind : (block : List ℕ) (front xs ys : List Spot) → SamePairs (spots_view block xs) (spots_view block ys) → SamePairs (spots_view block (front ++ xs)) (spots_view block (front ++ ys))
same_behind block [] xs ys same key = same key
same_behind block (s ∷ front) xs ys same key = elim (cases_Bool (nat_eq key s.key)) as (λ _. first_at key (spots_view block (s ∷ (front ++ ys))) ≡ first_at key (spots_view block (s ∷ (front ++ xs)))) [
  | inl here ↦ rw here refl
  | inr apart ↦ rw apart (same_behind block front xs ys same key)
]

mid_is : (xs : List Spot) (n k : ℕ) → length xs ≤ n + k → mid_of n k xs ≡ drop n xs
mid_is xs n k long = take_all k (drop n xs) (omega (arith, long, length-drop n xs))

put_is : (xs late : List Spot) (n k : ℕ) → length xs ≤ n + k → put_mid n k xs late ≡ take n xs ++ late
put_is xs late n k long =
    let none : post_of n k xs ≡ [] = at_drop_all (λ (l : List Spot). l) (drop n xs) k (omega (arith, long, length-drop n xs)) in
    ap (λ (l : List Spot). take n xs ++ (late ++ l)) none ∙ ap (λ (l : List Spot). take n xs ++ l) (append-nil late)

pub put_rises : (xs late : List Spot) (n k : ℕ) → AreFirst xs n → length xs ≤ n + k → IsPermutation (mid_of n k xs) late → IsNonDecreasingBy spot_key late → IsNonDecreasingBy spot_key (put_mid n k xs late)
put_rises xs late n k first long moved up =
    subst (IsNonDecreasingBy spot_key) (sym (put_is xs late n k long)) (rises_late xs late n first (subst (λ (l : List Spot). IsPermutation l late) (mid_is xs n k long) moved) up)

pub put_same : (xs late : List Spot) (n k : ℕ) → length xs ≤ n + k → length late ≡ length (mid_of n k xs) → IsStableByKey spot_key nat_cmp (mid_of n k xs) late → (block : List ℕ) → SamePairs (spots_view block xs) (spots_view block (put_mid n k xs late))
put_same xs late n k long same stable block =
    let behind : SamePairs (spots_view block (drop n xs)) (spots_view block late) =
    subst (λ (l : List Spot). SamePairs (spots_view block l) (spots_view block late)) (mid_is xs n k long) (same_sorted block (mid_of n k xs) late same stable) in
    subst (λ (l : List Spot). SamePairs (spots_view block xs) (spots_view block l)) (sym (put_is xs late n k long))
    (subst (λ (l : List Spot). SamePairs (spots_view block l) (spots_view block (take n xs ++ late))) (take-append-drop n xs) (same_behind block (take n xs) (drop n xs) late behind))
