-- The one arrangement of processors' items.
use Rattle.std.proofs.Common.{◌≡◌, ℕ, ◌<◌, ◌≤◌, max, eqb, List, [], ◌∷◌, ◌++◌, refl, sym, ap, subst, ◌∙◌, arith, inl, inr}
use Rattle.std.proofs.lemmas.Bool.{cases_Bool, eqb-true, eqb-false}
use Rattle.std.proofs.lemmas.List.{append-nil}
use Rattle.subpage.specs.ItemData.{ItemData, item_time}
use Rattle.subpage.specs.Arrangement.{Keyed, key_of, cpu_of, keyed_from, all_keyed, CpusRise, IsRising, with_key, by_key, IsArranged, arranged}
use Rattle.subpage.proofs.Arranging.{one_rising, by_key-rising, by_key-with_key, with_key-same, with_key-other}
use Rattle.subpage.proofs.Filters.{filter-filter, filter-append, filter-rising}

abbrev Lists : Type 0
Lists = List (ℕ × List ItemData)

module _ {X : Type 0} where
  -- no processor is below c, or at it
  abbrev FromOn : ℕ → List (ℕ × X) → Type 0
  FromOn c [] = Unit {0}
  FromOn c (p ∷ ps) = c ≤ p.0

  abbrev pub Above : ℕ → List (ℕ × X) → Type 0
  Above c [] = Unit {0}
  Above c (p ∷ ps) = c < p.0

  pub above_next : (p : ℕ × X) (ps : List (ℕ × X)) → CpusRise (p ∷ ps) → Above p.0 ps
  above_next p [] r = tt
  above_next p (q ∷ qs) r = r.0

  pub rise_next : (p : ℕ × X) (ps : List (ℕ × X)) → CpusRise (p ∷ ps) → CpusRise ps
  rise_next p [] r = tt
  rise_next p (q ∷ qs) r = r.1

  from_above : (c : ℕ) (ps : List (ℕ × X)) → Above c ps → FromOn c ps
  from_above c [] a = tt
  from_above c (p ∷ ps) a = omega arith

  pub above_further : (c : ℕ) (p : ℕ × X) (ps : List (ℕ × X)) → c < p.0 → CpusRise (p ∷ ps) → Above c ps
  above_further c p [] lt r = tt
  above_further c p (q ∷ qs) lt r = omega (arith, r.0)

-- a list that rises by processor from c on
abbrev HeadFrom : ℕ → List Keyed → Type 0
HeadFrom c [] = Unit {0}
HeadFrom c (x ∷ xs) = c ≤ x.cpu

record RisesFrom (c : ℕ) (xs : List Keyed) : Type 0 where
  rising : IsRising cpu_of xs
  head : HeadFrom c xs

rising_front : (x : Keyed) (xs : List Keyed) → RisesFrom x.cpu xs → IsRising cpu_of (x ∷ xs)
rising_front x [] r = tt
rising_front x (y ∷ ys) r = (r.head, r.rising)

lower : (c d : ℕ) (xs : List Keyed) → c ≤ d → RisesFrom d xs → RisesFrom c xs
lower c d [] le r = record { rising = tt; head = tt }
lower c d (x ∷ xs) le r = record { rising = r.rising; head = omega (arith, r.head) }

own_before : (c high : ℕ) (xs : List ItemData) (ys : List Keyed) → RisesFrom c ys → RisesFrom c (keyed_from c high xs ++ ys)
own_before c high [] ys r = r
own_before c high (x ∷ xs) ys r =
    let first : Keyed = record { key = max high (item_time x); cpu = c; item = x } in
    record { rising = rising_front first (keyed_from c (max high (item_time x)) xs ++ ys) (own_before c (max high (item_time x)) xs ys r); head = omega arith }

all_rise_from : (c : ℕ) (ps : Lists) → FromOn c ps → CpusRise ps → RisesFrom c (all_keyed ps)
all_rise_from c [] f r = record { rising = tt; head = tt }
all_rise_from c (p ∷ ps) f r =
    lower c p.0 _ f (own_before p.0 0 p.1 (all_keyed ps) (all_rise_from p.0 ps (from_above p.0 ps (above_next p ps r)) (rise_next p ps r)))

-- the processors' items, joined, rise by processor
all_rise : (ps : Lists) → CpusRise ps → IsRising cpu_of (all_keyed ps)
all_rise [] r = tt
all_rise (p ∷ ps) r = (all_rise_from p.0 (p ∷ ps) (omega arith) r).rising

own_with_cpu : (c high : ℕ) (xs : List ItemData) → with_key cpu_of c (keyed_from c high xs) ≡ keyed_from c high xs
own_with_cpu c high [] = refl
own_with_cpu c high (x ∷ xs) =
    let first : Keyed = record { key = max high (item_time x); cpu = c; item = x } in
    with_key-same cpu_of first _ c refl ∙ ap (λ (ys : List Keyed). first ∷ ys) (own_with_cpu c (max high (item_time x)) xs)

other_with_cpu : (c d high : ℕ) (xs : List ItemData) → (c ≡ d → ⊥) → with_key cpu_of d (keyed_from c high xs) ≡ []
other_with_cpu c d high [] differ = refl
other_with_cpu c d high (x ∷ xs) differ =
    let first : Keyed = record { key = max high (item_time x); cpu = c; item = x } in
    with_key-other cpu_of first _ d differ ∙ other_with_cpu c d (max high (item_time x)) xs differ

none_above : (c : ℕ) (ps : Lists) → Above c ps → CpusRise ps → with_key cpu_of c (all_keyed ps) ≡ []
none_above c [] a r = refl
none_above c (p ∷ ps) a r =
    filter-append (λ x. eqb (cpu_of x) c) (keyed_from p.0 0 p.1) (all_keyed ps)
    ∙ ap (λ (xs : List Keyed). xs ++ with_key cpu_of c (all_keyed ps)) (other_with_cpu p.0 c 0 p.1 (λ e. omega arith))
    ∙ none_above c ps (above_further c p ps a r) (rise_next p ps r)

-- the keys of one processor rise
abbrev KeyFrom : ℕ → List Keyed → Type 0
KeyFrom k [] = Unit {0}
KeyFrom k (x ∷ xs) = k ≤ x.key

record KeysRiseFrom (k : ℕ) (xs : List Keyed) : Type 0 where
  rising : IsRising key_of xs
  head : KeyFrom k xs

key_front : (x : Keyed) (xs : List Keyed) → KeysRiseFrom x.key xs → IsRising key_of (x ∷ xs)
key_front x [] r = tt
key_front x (y ∷ ys) r = (r.head, r.rising)

keys_rise : (c high : ℕ) (xs : List ItemData) → KeysRiseFrom high (keyed_from c high xs)
keys_rise c high [] = record { rising = tt; head = tt }
keys_rise c high (x ∷ xs) =
    let first : Keyed = record { key = max high (item_time x); cpu = c; item = x } in
    record { rising = key_front first (keyed_from c (max high (item_time x)) xs) (keys_rise c (max high (item_time x)) xs); head = omega arith }

-- the items of the first processor, and of any other
pub with_cpu-own : (p : ℕ × List ItemData) (ps : Lists) → CpusRise (p ∷ ps) → with_key cpu_of p.0 (all_keyed (p ∷ ps)) ≡ keyed_from p.0 0 p.1
with_cpu-own p ps r =
    filter-append (λ x. eqb (cpu_of x) p.0) (keyed_from p.0 0 p.1) (all_keyed ps)
    ∙ ap (λ (xs : List Keyed). xs ++ with_key cpu_of p.0 (all_keyed ps)) (own_with_cpu p.0 0 p.1)
    ∙ ap (λ (xs : List Keyed). keyed_from p.0 0 p.1 ++ xs) (none_above p.0 ps (above_next p ps r) (rise_next p ps r))
    ∙ append-nil _

pub with_cpu-other : (c : ℕ) (p : ℕ × List ItemData) (ps : Lists) → (p.0 ≡ c → ⊥) → with_key cpu_of c (all_keyed (p ∷ ps)) ≡ with_key cpu_of c (all_keyed ps)
with_cpu-other c p ps differ =
    filter-append (λ x. eqb (cpu_of x) c) (keyed_from p.0 0 p.1) (all_keyed ps)
    ∙ ap (λ (xs : List Keyed). xs ++ with_key cpu_of c (all_keyed ps)) (other_with_cpu p.0 c 0 p.1 differ)

own_keys_rise : (c : ℕ) (ps : Lists) → CpusRise ps → IsRising key_of (with_key cpu_of c (all_keyed ps))
own_keys_rise c [] r = tt
own_keys_rise c (p ∷ ps) r =
    elim (cases_Bool (eqb p.0 c)) [
      | inl b ↦
          let own : with_key cpu_of p.0 (all_keyed (p ∷ ps)) ≡ keyed_from p.0 0 p.1 = with_cpu-own p ps r in
          subst (λ d. IsRising key_of (with_key cpu_of d (all_keyed (p ∷ ps)))) (eqb-true _ _ b) (subst (IsRising key_of) (sym own) (keys_rise p.0 0 p.1).rising)
      | inr b ↦ subst (IsRising key_of) (sym (with_cpu-other c p ps (eqb-false _ _ b))) (own_keys_rise c ps (rise_next p ps r))
    ]

-- those of a key and a processor, in either order of asking
both : (k c : ℕ) (xs : List Keyed) → with_key cpu_of c (with_key key_of k xs) ≡ with_key key_of k (with_key cpu_of c xs)
both k c xs = filter-filter (λ x. eqb (cpu_of x) c) (λ x. eqb (key_of x) k) xs

pub arranged_is : (lists : Lists) → CpusRise lists → IsArranged lists (arranged lists)
unfolding arranged
arranged_is lists r =
    let all = all_keyed lists in
    record {
      by_keys = by_key-rising key_of all;
      by_processors = λ k. subst (IsRising cpu_of) (sym (by_key-with_key key_of k all)) (filter-rising cpu_of (λ x. eqb (key_of x) k) all (all_rise lists r));
      by_positions = λ c. one_rising key_of (with_key cpu_of c (by_key key_of all)) (with_key cpu_of c all)
          (filter-rising key_of (λ x. eqb (cpu_of x) c) (by_key key_of all) (by_key-rising key_of all))
          (own_keys_rise c lists r)
          (λ z. sym (both z.key c (by_key key_of all)) ∙ ap (with_key cpu_of c) (by_key-with_key key_of z.key all) ∙ both z.key c all);
    }

-- those of one key are the same in any arrangement
same_with_key : (lists : Lists) (xs : List Keyed) → CpusRise lists → IsArranged lists xs → (k : ℕ) → with_key key_of k xs ≡ with_key key_of k (all_keyed lists)
same_with_key lists xs r a k =
    let all = all_keyed lists in
    one_rising cpu_of (with_key key_of k xs) (with_key key_of k all) (a.by_processors k)
    (filter-rising cpu_of (λ x. eqb (key_of x) k) all (all_rise lists r))
    (λ z. both k z.cpu xs ∙ ap (with_key key_of k) (a.by_positions z.cpu) ∙ sym (both k z.cpu all))

pub is_arranged : (lists : Lists) (xs : List Keyed) → CpusRise lists → IsArranged lists xs → xs ≡ arranged lists
unfolding arranged
is_arranged lists xs r a =
    let all = all_keyed lists in
    one_rising key_of xs (by_key key_of all) a.by_keys (by_key-rising key_of all) (λ z. same_with_key lists xs r a z.key ∙ sym (by_key-with_key key_of z.key all))
