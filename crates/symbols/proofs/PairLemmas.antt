-- What is found among pairs whose numbers rise.
use Rattle.std.proofs.Common.{ltb, ◌≡◌, ℕ, zero, suc, ◌+◌, ◌-◌, ◌<◌, ◌≤◌, nat_eq, List, [], ◌∷◌, length, slice_get, slice_index, Option, Some, None, refl, sym, ap, subst, ◌∙◌, arith, inl, inr}
use Rattle.std.specs.Map.{keys_of}
use Rattle.std.proofs.lemmas.Bool.{cases_Bool, cases_lt, eqb-true, eqb-false, eq-eqb, ne_eqb, ltb-true, ltb-false, le-leb, lt-leb}
use Rattle.std.specs.Option.{option_or}
use Rattle.symbols.specs.NameMap.{Pair, first_at, RisesFrom, SamePairs, IsMapOf, IsNearest, NoneUpTo, put, map_of, last_up_to}
use Rattle.symbols.specs.Names.{IsFrom}
use Rattle.symbols.specs.Search.{RisesKeys, IsLastUpTo, NoneWithin}
use Rattle.symbols.specs.Spots.{firsts}

above : (low : ℕ) (ps : List Pair) (i : ℕ) → RisesFrom low ps → i < length (keys_of ps) → low ≤ slice_index (keys_of ps) i
above low [] i r less = absurd (omega (arith, less))
above low (p ∷ ps) zero r less = r.0
above low (p ∷ ps) (suc i) r less = omega (arith, r.0, above (p.0 + 1) ps i r.1 (omega (arith, less)))

pub rises_keys : (low : ℕ) (ps : List Pair) → RisesFrom low ps → RisesKeys (keys_of ps)
rises_keys low [] r i j less inside = absurd (omega (arith, inside))
rises_keys low (p ∷ ps) r i zero less inside = absurd (omega (arith, less))
rises_keys low (p ∷ ps) r zero (suc j) less inside = omega (arith, above (p.0 + 1) ps j r.1 (omega (arith, inside)))
rises_keys low (p ∷ ps) r (suc i) (suc j) less inside = rises_keys (p.0 + 1) ps r.1 i j (omega (arith, less)) (omega (arith, inside))

pub none_at : (key : ℕ) (ps : List Pair) → ((k : ℕ) → k < length (keys_of ps) → slice_index (keys_of ps) k ≡ key → ⊥) → first_at key ps ≡ None
none_at key [] h = refl
none_at key (p ∷ ps) h = rw (ne_eqb key p.0 (λ e. h 0 (omega arith) (sym e))) (none_at key ps (λ k less e. h (suc k) (omega (arith, less)) e))

-- a pair at a place
pub key_inside : (ps : List Pair) (i : ℕ) (p : Pair) → slice_get ps i ≡ Some p → i < length (keys_of ps)
key_inside [] i p e = absurd (grind (arith, e))
key_inside (q ∷ ps) zero p e = omega arith
key_inside (q ∷ ps) (suc i) p e = omega (arith, key_inside ps i p e)

some_is : {A : Type 0} (x y : A) → Some x ≡ Some y → x ≡ y
some_is x y e = ap (λ (o : Option _). elim o [ None ↦ x | Some z ↦ z ]) e

pub key_is : (ps : List Pair) (i : ℕ) (p : Pair) → slice_get ps i ≡ Some p → slice_index (keys_of ps) i ≡ p.0
key_is [] i p e = absurd (grind (arith, e))
key_is (q ∷ ps) zero p e = ap (λ (r : Pair). r.0) (some_is q p e)
key_is (q ∷ ps) (suc i) p e = key_is ps i p e

pub named_at : (low : ℕ) (ps : List Pair) (i : ℕ) (p : Pair) → RisesFrom low ps → slice_get ps i ≡ Some p → first_at p.0 ps ≡ Some p.1
named_at low [] i p r e = absurd (grind (arith, e))
named_at low (q ∷ ps) zero p r e = rw (eq-eqb p.0 q.0 (ap (λ (r : Pair). r.0) (sym (some_is q p e)))) (ap (λ (r : Pair). Some r.1) (some_is q p e))
named_at low (q ∷ ps) (suc i) p r e =
    rw (ne_eqb p.0 q.0 (λ same. absurd (omega (arith, same, key_is ps i p e, above (q.0 + 1) ps i r.1 (key_inside ps i p e)))))
    (named_at (q.0 + 1) ps i p r.1 e)

-- the name at a place that has this number
pub name_at : (rows : List Pair) (key place number : ℕ) (name : List ℕ) → RisesFrom 0 rows → Some (number, name) ≡ slice_get rows place → number ≡ key → first_at key rows ≡ Some name
name_at rows key place number name r is same =
    sym (ap (λ (n : ℕ). first_at n rows) same) ∙ named_at 0 rows place (number, name) r (sym is)

-- what a search finds
pub nearest_is : (ps : List Pair) (address i : ℕ) (p : Pair) → RisesFrom 0 ps → IsLastUpTo (keys_of ps) address i → slice_get ps i ≡ Some p → IsNearest ps address p.1 (address - p.0)
nearest_is ps address i p r last e = record {
  at = p.0;
  is = omega (arith, last.within, key_is ps i p e);
  named = named_at 0 ps i p r e;
  none_between = λ other more less. none_at other ps (λ k inside same. elim (cases_lt i k) as (λ _. ⊥) [
    | inl past ↦ absurd (omega (arith, last.past k past inside, same, less))
    | inr le ↦ elim (cases_lt k i) as (λ _. ⊥) [
      | inl before ↦ absurd (omega (arith, rises_keys 0 ps r k i before last.inside, key_is ps i p e, same, more))
      | inr up ↦ let here : k ≡ i = omega (arith, le, up) in absurd (omega (arith, key_is ps i p e, ap (slice_index (keys_of ps)) here, same, more))
    ]
  ]);
}

pub within : (ps : List Pair) (address i : ℕ) (p : Pair) → IsLastUpTo (keys_of ps) address i → slice_get ps i ≡ Some p → p.0 ≤ address
within ps address i p last e = omega (arith, last.within, key_is ps i p e)

pub none_up_to : (ps : List Pair) (address : ℕ) → NoneWithin (keys_of ps) address → NoneUpTo address ps
none_up_to ps address none other le = none_at other ps (λ k inside same. absurd (omega (arith, none k inside, same, le)))

-- of pairs that follow each other with one number the first: the numbers rise
pub rises_behind : (low : ℕ) (ps : List Pair) → IsFrom low ps → RisesFrom (low + 1) (firsts (Some low) ps)
rises_behind low [] from = tt
rises_behind low (p ∷ ps) from = elim (cases_Bool (nat_eq low p.0)) as (λ _. RisesFrom (low + 1) (firsts (Some low) (p ∷ ps))) [
  | inl same ↦ rw same (rises_behind low ps (subst (λ (n : ℕ). IsFrom n ps) (sym (eqb-true low p.0 same)) from.1))
  | inr other ↦ rw other (omega (arith, from.0, eqb-false low p.0 other), rises_behind p.0 ps from.1)
]

pub rises_all : (ps : List Pair) → IsFrom 0 ps → RisesFrom 0 (firsts None ps)
rises_all [] from = tt
rises_all (p ∷ ps) from = (omega arith, rises_behind p.0 ps from.1)

-- and what is found stays
same_behind : (last : ℕ) (ps : List Pair) (key : ℕ) → (last ≡ key → ⊥) → first_at key (firsts (Some last) ps) ≡ first_at key ps
same_behind last [] key not = refl
same_behind last (p ∷ ps) key not = elim (cases_Bool (nat_eq last p.0)) as (λ _. first_at key (firsts (Some last) (p ∷ ps)) ≡ first_at key (p ∷ ps)) [
  | inl same ↦ rw (same, ne_eqb key p.0 (λ e. not (eqb-true last p.0 same ∙ sym e))) (same_behind last ps key not)
  | inr other ↦ rw other (elim (cases_Bool (nat_eq key p.0)) as (λ _. first_at key (p ∷ firsts (Some p.0) ps) ≡ first_at key (p ∷ ps)) [
    | inl here ↦ rw here refl
    | inr apart ↦ rw apart (same_behind p.0 ps key (λ e. eqb-false key p.0 apart (sym e)))
  ])
]

pub same_firsts : (ps : List Pair) → SamePairs ps (firsts None ps)
same_firsts [] key = refl
same_firsts (p ∷ ps) key = elim (cases_Bool (nat_eq key p.0)) as (λ _. first_at key (p ∷ firsts (Some p.0) ps) ≡ first_at key (p ∷ ps)) [
  | inl here ↦ rw here refl
  | inr apart ↦ rw apart (same_behind p.0 ps key (λ e. eqb-false key p.0 apart (sym e)))
]

-- the name of a number itself
pub name_here : (rows : List Pair) (key : ℕ) (name : List ℕ) (behind : ℕ) → behind ≡ 0 → IsNearest rows key name behind → Some name ≡ first_at key rows
name_here rows key name behind none near = sym (ap (λ (n : ℕ). first_at n rows) (omega (arith, near.is, none)) ∙ near.named)

pub name_not : (rows : List Pair) (key : ℕ) (name : List ℕ) (behind : ℕ) → (behind ≡ 0 → ⊥) → IsNearest rows key name behind → None ≡ first_at key rows
name_not rows key name behind some near = sym (near.none_between key (omega (arith, near.is, some)) (omega arith))

pub name_none : (rows : List Pair) (key : ℕ) → NoneUpTo key rows → None ≡ first_at key rows
name_none rows key none = sym (none key (omega arith))

none_below : (low : ℕ) (ps : List Pair) (key : ℕ) → RisesFrom low ps → key < low → first_at key ps ≡ None
none_below low ps key r less = none_at key ps (λ k inside same. absurd (omega (arith, above low ps k r inside, same, less)))

found_first : (p : Pair) (ps : List Pair) → first_at p.0 (p ∷ ps) ≡ Some p.1
found_first p ps = rw (eq-eqb p.0 p.0 refl) refl

passes : (key : ℕ) (p : Pair) (ps : List Pair) → (key ≡ p.0 → ⊥) → first_at key (p ∷ ps) ≡ first_at key ps
passes key p ps other = rw (ne_eqb key p.0 other) refl

never : {A : Type 0} (x : A) → Some x ≡ None → ⊥
never x e = grind (arith, e)

-- the least number stands first
not_less : (low : ℕ) (p q : Pair) (ps qs : List Pair) → RisesFrom (q.0 + 1) qs → SamePairs (p ∷ ps) (q ∷ qs) → p.0 < q.0 → ⊥
not_less low p q ps qs r same less =
    never p.1 (sym (found_first p ps) ∙ sym (same p.0) ∙ passes p.0 q qs (λ e. absurd (omega (arith, e, less))) ∙ none_below (q.0 + 1) qs p.0 r (omega (arith, less)))

rest_same : (p q : Pair) (ps qs : List Pair) → p.0 ≡ q.0 → RisesFrom (p.0 + 1) ps → RisesFrom (q.0 + 1) qs → SamePairs (p ∷ ps) (q ∷ qs) → SamePairs ps qs
rest_same p q ps qs e rp rq same key = elim (cases_Bool (nat_eq key p.0)) as (λ _. first_at key qs ≡ first_at key ps) [
  | inl here ↦ let is : key ≡ p.0 = eqb-true key p.0 here in none_below (q.0 + 1) qs key rq (omega (arith, is, e)) ∙ sym (none_below (p.0 + 1) ps key rp (omega (arith, is)))
  | inr apart ↦ let not : key ≡ p.0 → ⊥ = eqb-false key p.0 apart in sym (passes key q qs (λ is. not (is ∙ sym e))) ∙ same key ∙ passes key p ps not
]

abbrev pair : ℕ → List ℕ → Pair
pair n name = (n, name)

pub one_rows : (low : ℕ) (rows others : List Pair) → RisesFrom low rows → RisesFrom low others → SamePairs rows others → rows ≡ others
one_rows low [] [] r s same = refl
one_rows low [] (q ∷ qs) r s same = absurd (never q.1 (sym (found_first q qs) ∙ same q.0))
one_rows low (p ∷ ps) [] r s same = absurd (never p.1 (sym (found_first p ps) ∙ sym (same p.0)))
one_rows low (p ∷ ps) (q ∷ qs) r s same =
    let e : p.0 ≡ q.0 = elim (cases_lt p.0 q.0) as (λ _. p.0 ≡ q.0) [
      | inl less ↦ absurd (not_less low p q ps qs s.1 same less)
      | inr le ↦ elim (cases_lt q.0 p.0) as (λ _. p.0 ≡ q.0) [
        | inl more ↦ absurd (not_less low q p qs ps r.1 (λ key. sym (same key)) more)
        | inr ge ↦ omega (arith, le, ge)
      ]
    ] in
    let name : p.1 ≡ q.1 = some_is p.1 q.1 (sym (found_first p ps) ∙ sym (same p.0) ∙ ap (λ (n : ℕ). first_at n (q ∷ qs)) e ∙ found_first q qs) in
    let head : p ≡ q = ap (λ (n : ℕ). pair n p.1) e ∙ ap (pair q.0) name in
    ap (λ (x : Pair). x ∷ ps) head
    ∙ ap (λ (l : List Pair). q ∷ l) (one_rows (p.0 + 1) ps qs r.1 (subst (λ (n : ℕ). RisesFrom (n + 1) qs) (sym e) s.1) (rest_same p q ps qs e r.1 s.1 same))

-- the computed map
rises_put : (low : ℕ) (p : Pair) (ps : List Pair) → low ≤ p.0 → RisesFrom low ps → RisesFrom low (put p ps)
rises_put low p [] le r = (le, tt)
rises_put low p (q ∷ qs) le r = elim (cases_Bool (ltb p.0 q.0)) as (λ _. RisesFrom low (put p (q ∷ qs))) [
  | inl less ↦ rw less (le, (omega (arith, ltb-true p.0 q.0 less), r.1))
  | inr not ↦ elim (cases_Bool (nat_eq p.0 q.0)) as (λ _. RisesFrom low (put p (q ∷ qs))) [
    | inl same ↦ rw (not, same) (le, subst (λ (n : ℕ). RisesFrom (n + 1) qs) (sym (eqb-true p.0 q.0 same)) r.1)
    | inr apart ↦ rw (not, apart) (r.0, rises_put (q.0 + 1) p qs (omega (arith, ltb-false p.0 q.0 not, eqb-false p.0 q.0 apart)) r.1)
  ]
]

first_put : (p : Pair) (ps : List Pair) (key : ℕ) → first_at key (put p ps) ≡ first_at key (p ∷ ps)
first_put p [] key = refl
first_put p (q ∷ qs) key = elim (cases_Bool (ltb p.0 q.0)) as (λ _. first_at key (put p (q ∷ qs)) ≡ first_at key (p ∷ q ∷ qs)) [
  | inl less ↦ rw less refl
  | inr not ↦ elim (cases_Bool (nat_eq p.0 q.0)) as (λ _. first_at key (put p (q ∷ qs)) ≡ first_at key (p ∷ q ∷ qs)) [
    | inl same ↦ rw (not, same) (elim (cases_Bool (nat_eq key p.0)) as (λ _. first_at key (p ∷ qs) ≡ first_at key (p ∷ q ∷ qs)) [
      | inl here ↦ rw here refl
      | inr other ↦ rw (other, ne_eqb key q.0 (λ e. eqb-false key p.0 other (e ∙ sym (eqb-true p.0 q.0 same)))) refl
    ])
    | inr apart ↦ rw (not, apart) (elim (cases_Bool (nat_eq key q.0)) as (λ _. first_at key (q ∷ put p qs) ≡ first_at key (p ∷ q ∷ qs)) [
      | inl here ↦ rw (here, ne_eqb key p.0 (λ e. eqb-false p.0 q.0 apart (sym e ∙ eqb-true key q.0 here))) refl
      | inr other ↦ rw other (first_put p qs key)
    ])
  ]
]

map_rises : (pairs : List Pair) → RisesFrom 0 (map_of pairs)
unfolding map_of
map_rises [] = tt
map_rises (p ∷ ps) = rises_put 0 p (map_of ps) (omega arith) (map_rises ps)

map_same : (pairs : List Pair) → SamePairs pairs (map_of pairs)
unfolding map_of
map_same [] key = refl
map_same (p ∷ ps) key = first_put p (map_of ps) key ∙ elim (cases_Bool (nat_eq key p.0)) as (λ _. first_at key (p ∷ map_of ps) ≡ first_at key (p ∷ ps)) [
  | inl here ↦ rw here refl
  | inr other ↦ rw other (map_same ps key)
]

pub map_there : (pairs : List Pair) → IsMapOf pairs (map_of pairs)
map_there pairs = record { rises = map_rises pairs; same = map_same pairs }

pub one_map : (pairs rows : List Pair) → IsMapOf pairs rows → rows ≡ map_of pairs
one_map pairs rows is = one_rows 0 rows (map_of pairs) is.rises (map_rises pairs) (λ key. map_same pairs key ∙ sym (is.same key))

-- the last that is at most an address
above_none : (low address : ℕ) (ps : List Pair) → RisesFrom low ps → address < low → last_up_to address ps ≡ None
above_none low address [] r less = refl
above_none low address (p ∷ ps) r less = rw (lt-leb p.0 address (omega (arith, less, r.0))) refl

pub last_found : (low : ℕ) (ps : List Pair) (address i : ℕ) (p : Pair) → RisesFrom low ps → IsLastUpTo (keys_of ps) address i → slice_get ps i ≡ Some p → Some p ≡ last_up_to address ps
last_found low [] address i p r last e = absurd (omega (arith, last.inside))
last_found low (q ∷ qs) address zero p r last e = rw (le-leb q.0 address (omega (arith, last.within))) (sym (rw (first_none qs r.1 last) e))
  where
    first_none : (ps : List Pair) → RisesFrom (q.0 + 1) ps → IsLastUpTo (keys_of (q ∷ ps)) address zero → last_up_to address ps ≡ None
    first_none [] r last = refl
    first_none (x ∷ xs) r last = rw (lt-leb x.0 address (last.past 1 (omega arith) (omega arith))) refl
last_found low (q ∷ qs) address (suc i) p r last e =
    let within : q.0 ≤ address = omega (arith, last.within, above (q.0 + 1) qs i r.1 (omega (arith, last.inside))) in
    rw (le-leb q.0 address within) (ap (λ (o : Option Pair). option_or o (Some q)) (last_found (q.0 + 1) qs address i p r.1 (record {
      inside = omega (arith, last.inside);
      within = last.within;
      past = λ k more less. last.past (suc k) (omega (arith, more)) (omega (arith, less));
    }) e))

pub last_none : (ps : List Pair) (address : ℕ) → NoneWithin (keys_of ps) address → None ≡ last_up_to address ps
last_none [] address none = refl
last_none (p ∷ ps) address none = sym (rw (lt-leb p.0 address (none 0 (omega arith))) refl)
