-- Spots that rise, and of those with one number the first.
use Rattle.std.proofs.Common.{◌≡◌, ℕ, suc, ◌+◌, ◌-◌, ◌<◌, ◌≤◌, true, false, List, [], ◌∷◌, ◌++◌, length, drop, get_or, All, Option, Some, refl, sym, ap, ◌∙◌, append_assoc, arith, inl, inr}
use Rattle.std.proofs.lemmas.Bool.{cases_Bool, cases_lt}
use Rattle.std.proofs.lemmas.List.{append-nil, at_drop_all, at_drop_more, get_or_default}
use Rattle.std.proofs.lemmas.List.Elements.{All-cons}
use Rattle.symbols.specs.declared.names.Spot.{Spot}
use Rattle.symbols.specs.NameMap.{Pair}
use Rattle.symbols.specs.Names.{spots_view}
use Rattle.symbols.specs.Spots.{RiseUpTo, NoneBelow, AreFirst, is_key, first_spots, firsts}

-- one more spot that is not below those before it
key_same : (xs : List Spot) (i : ℕ) (d e : Spot) → i < length xs → (get_or xs i e).key ≡ (get_or xs i d).key
key_same xs i d e inside = ap (λ (s : Spot). s.key) (get_or_default xs i e d inside)

pub last_more : (xs : List Spot) (i last : ℕ) (d : Spot) → i < length xs → last ≤ (get_or xs i d).key → ((k : ℕ) (e : Spot) → k < i → (get_or xs k e).key ≤ last) → (k : ℕ) (e : Spot) → k < i + 1 → (get_or xs k e).key ≤ (get_or xs i d).key
last_more xs i last d inside next below k e less = elim (cases_lt k i) as (λ _. (get_or xs k e).key ≤ (get_or xs i d).key) [
  | inl before ↦ omega (arith, below k e before, next)
  | inr past ↦ let at : k ≡ i = omega (arith, past, less) in omega (arith, ap (λ (n : ℕ). (get_or xs n e).key) at, key_same xs i d e inside)
]

pub rise_more : (xs : List Spot) (i last : ℕ) (d : Spot) → i < length xs → last ≤ (get_or xs i d).key → ((k : ℕ) (e : Spot) → k < i → (get_or xs k e).key ≤ last) → RiseUpTo xs i → RiseUpTo xs (i + 1)
rise_more xs i last d inside next below rises j k e le less = elim (cases_lt k i) as (λ _. (get_or xs j e).key ≤ (get_or xs k e).key) [
  | inl before ↦ rises j k e le before
  | inr past ↦
      let at : k ≡ i = omega (arith, past, less) in
      omega (arith, last_more xs i last d inside next below j e (omega (arith, le, less)), ap (λ (n : ℕ). (get_or xs n e).key) at, key_same xs i d e inside)
]

-- none after a place is below the least of those after it
pub least_more : (xs : List Spot) (from i least : ℕ) (d : Spot) → i < length xs → ((k : ℕ) (e : Spot) → from ≤ k → k < i → least ≤ (get_or xs k e).key) → (now : ℕ) → now ≤ least → now ≤ (get_or xs i d).key
    → (k : ℕ) (e : Spot) → from ≤ k → k < i + 1 → now ≤ (get_or xs k e).key
least_more xs from i least d inside before now le here k e past less = elim (cases_lt k i) as (λ _. now ≤ (get_or xs k e).key) [
  | inl earlier ↦ omega (arith, before k e past earlier, le)
  | inr later ↦ let at : k ≡ i = omega (arith, later, less) in omega (arith, here, ap (λ (n : ℕ). (get_or xs n e).key) at, key_same xs i d e inside)
]

-- those that rise and are not above any after them
pub are_first : (xs : List Spot) (rising count least : ℕ) (d : Spot) → rising ≤ length xs → RiseUpTo xs rising → NoneBelow xs rising least → count ≤ rising → 0 < count → (get_or xs (count - 1) d).key ≤ least → AreFirst xs count
are_first xs rising count least d inside rises none within some last = record {
  within = omega (arith, inside, within);
  below = λ i j e first le less. elim (cases_lt j rising) as (λ _. (get_or xs i e).key ≤ (get_or xs j e).key) [
    | inl before ↦ rises i j e le before
    | inr past ↦ omega (arith, rises i (count - 1) e (omega (arith, first)) (omega (arith, first, within)), key_same xs (count - 1) d e (omega (arith, some, inside, within)), last, none j e past less)
  ];
}

-- the first of each number
pub firsts_view : (block : List ℕ) (last : Option ℕ) (xs : List Spot) → spots_view block (first_spots last xs) ≡ firsts last (spots_view block xs)
firsts_view block last [] = refl
firsts_view block last (x ∷ xs) = elim (cases_Bool (is_key last x.key)) as (λ _. spots_view block (first_spots last (x ∷ xs)) ≡ firsts last (spots_view block (x ∷ xs))) [
  | inl same ↦ rw same (firsts_view block last xs)
  | inr other ↦ rw other (ap (λ (l : List Pair). (spots_view block (x ∷ [])) ++ l) (firsts_view block (Some x.key) xs))
]

pub firsts_all : (P : Spot → Type 0) (last : Option ℕ) (xs : List Spot) → All P xs → All P (first_spots last xs)
firsts_all P last [] all = all
firsts_all P last (x ∷ xs) all = elim (cases_Bool (is_key last x.key)) as (λ _. All P (first_spots last (x ∷ xs))) [
  | inl same ↦ rw same (firsts_all P last xs (λ k d less. all (suc k) d (omega (arith, less))))
  | inr other ↦ rw other (All-cons P x _ (all 0 x (omega arith)) (firsts_all P (Some x.key) xs (λ k d less. all (suc k) d (omega (arith, less)))))
]

-- a loop that moves them to the front
pub passed : (front whole xs : List Spot) (last : Option ℕ) (i : ℕ) (d : Spot) → i < length xs → is_key last (get_or xs i d).key ≡ true → front ++ first_spots last (drop i xs) ≡ whole → front ++ first_spots last (drop (i + 1) xs) ≡ whole
passed front whole xs last i d less same before =
    let here : first_spots last (drop i xs) ≡ first_spots last (drop (i + 1) xs) = at_drop_more (first_spots last) xs i d less ∙ rw same refl in
    ap (λ (l : List Spot). front ++ l) (sym here) ∙ before

pub taken : (front now whole xs : List Spot) (last : Option ℕ) (i : ℕ) (d : Spot) → i < length xs → is_key last (get_or xs i d).key ≡ false → now ≡ front ++ get_or xs i d ∷ [] → front ++ first_spots last (drop i xs) ≡ whole
    → now ++ first_spots (Some (get_or xs i d).key) (drop (i + 1) xs) ≡ whole
taken front now whole xs last i d less other is before =
    let x = get_or xs i d in
    let here : first_spots last (drop i xs) ≡ x ∷ first_spots (Some x.key) (drop (i + 1) xs) = at_drop_more (first_spots last) xs i d less ∙ rw other refl in
    ap (λ (l : List Spot). l ++ first_spots (Some x.key) (drop (i + 1) xs)) is ∙ append_assoc front (x ∷ []) (first_spots (Some x.key) (drop (i + 1) xs)) ∙ ap (λ (l : List Spot). front ++ l) (sym here) ∙ before

pub all_taken : (front whole xs : List Spot) (last : Option ℕ) (i : ℕ) → length xs ≤ i → front ++ first_spots last (drop i xs) ≡ whole → front ≡ whole
all_taken front whole xs last i le before =
    sym (append-nil front) ∙ ap (λ (l : List Spot). front ++ l) (sym (at_drop_all (first_spots last) xs i le)) ∙ before
