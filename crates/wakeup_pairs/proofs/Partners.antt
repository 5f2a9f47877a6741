-- Each is paired once, and the list of pairs is one.
use Rattle.std.proofs.Common.{◌≡◌, ℕ, zero, suc, ◌+◌, ◌<◌, ◌≤◌, ◌⊎◌, List, [], ◌∷◌, slice_get, Some, Contains, refl, sym, ap, ◌∙◌, subst, inl, inr, arith}
use Rattle.std.specs.List.{AllZip}
use Rattle.std.proofs.lemmas.Bool.{cases_order}
use Rattle.wakeup_pairs.specs.declared.wakeup_item.Pair.{Pair}
use Rattle.wakeup_pairs.specs.declared.wakeup_item.Switch.{Switch}
use Rattle.wakeup_pairs.specs.declared.wakeup_item.Wake.{Wake}
use Rattle.wakeup_pairs.specs.declared.wakeup_item.WakeupItem.{WakeupItem}
use Rattle.wakeup_pairs.specs.declared.wakeup_item.WakeupItem.TheVariants.{Wakes, Switches}
use Rattle.wakeup_pairs.specs.Pairs.{WaitsFrom, IsPaired, IsPairAt, pair_of, RiseFrom, ArePairs}
use Rattle.wakeup_pairs.proofs.Places.{same_wake, same_switch}

waits_same : (xs : List WakeupItem) (a b : Switch) (i j : ℕ) → a ≡ b → WaitsFrom xs a.task i j → WaitsFrom xs b.task i j
waits_same xs a b i j e w = subst (λ (s : Switch). WaitsFrom xs s.task i j) e w

pub one_wake : (xs : List WakeupItem) (i h j : ℕ) → IsPaired xs i j → IsPaired xs h j → i ≡ h
one_wake xs i h j p q =
    let same : p.switch ≡ q.switch = same_switch (slice_get xs j) p.switch q.switch p.there q.there in
    let le : i ≤ h = p.first h (waits_same xs q.switch p.switch h j (sym same) q.waits) in
    let ge : h ≤ i = q.first i (waits_same xs p.switch q.switch i j same p.waits) in
    omega arith

-- an earlier switch to the task ends its waiting
no_later : (xs : List WakeupItem) (i j k : ℕ) → IsPaired xs i j → IsPaired xs i k → j < k → ⊥
no_later xs i j k p q lt =
    let same : p.waits.wake ≡ q.waits.wake = same_wake (slice_get xs i) p.waits.wake q.waits.wake p.waits.there q.waits.there in
    q.waits.quiet j (Switches p.switch) p.waits.before lt p.there (sym p.waits.same ∙ ap (λ (w : Wake). w.task) same ∙ q.waits.same)

pub one_switch : (xs : List WakeupItem) (i j k : ℕ) → IsPaired xs i j → IsPaired xs i k → j ≡ k
one_switch xs i j k p q = elim (cases_order j k) [
  | inl e ↦ e
  | inr (inl lt) ↦ absurd (no_later xs i j k p q lt)
  | inr (inr gt) ↦ absurd (no_later xs i k j q p gt)
]

told_once : (xs : List WakeupItem) (i h j : ℕ) (a b : Pair) → IsPairAt xs (i, j) a → IsPairAt xs (h, j) b → a ≡ b
told_once xs i h j a b p q =
    let at : i ≡ h = one_wake xs i h j p.paired q.paired in
    let switches : p.paired.switch ≡ q.paired.switch = same_switch (slice_get xs j) p.paired.switch q.paired.switch p.paired.there q.paired.there in
    let wakes : p.paired.waits.wake ≡ q.paired.waits.wake =
    same_wake (slice_get xs h) p.paired.waits.wake q.paired.waits.wake (subst (λ n. slice_get xs n ≡ Some (Wakes p.paired.waits.wake)) at p.paired.waits.there) q.paired.waits.there in
    p.told ∙ (λ n. pair_of (wakes n).time (switches n)) ∙ sym q.told

-- what stands in a list is its first, or stands after it
in_parts : {X : Type 0} (x y : X) (ys : List X) → Contains (y ∷ ys) x → (y ≡ x) ⊎ Contains ys x
in_parts x y ys (zero, lt, e) = inl e
in_parts x y ys (suc k, lt, e) = inr (k, omega arith, e)

not_below : (n : ℕ) (place : ℕ × ℕ) (places : List (ℕ × ℕ)) → RiseFrom n places → Contains places place → n ≤ place.1
not_below n place [] r (k, lt, e) = absurd (omega arith)
not_below n place (p ∷ ps) r c = elim (in_parts place p ps c) [
  | inl e ↦ subst (λ (q : ℕ × ℕ). n ≤ q.1) e r.0
  | inr more ↦ let le : p.1 + 1 ≤ place.1 = not_below (p.1 + 1) place ps r.1 more in omega (arith, r.0)
]

-- all that are paired from this place of a switch on stand in the list
abbrev HasAll : List WakeupItem → ℕ → List (ℕ × ℕ) → Type 0
HasAll xs n places = (i j : ℕ) → n ≤ j → IsPaired xs i j → Contains places (i, j)

has_rest : (xs : List WakeupItem) (n : ℕ) (p : ℕ × ℕ) (ps : List (ℕ × ℕ)) → n ≤ p.1 → HasAll xs n (p ∷ ps) → HasAll xs (p.1 + 1) ps
has_rest xs n p ps low all i j le q = elim (in_parts (i, j) p ps (all i j (omega arith) q)) [
  | inl e ↦ let same : p.1 ≡ j = ap (λ (r : ℕ × ℕ). r.1) e in absurd (omega arith)
  | inr more ↦ more
]

same_pairs : (xs : List WakeupItem) (n : ℕ) (ps qs : List (ℕ × ℕ)) (ms ns : List Pair) → RiseFrom n ps → RiseFrom n qs
    → AllZip (IsPairAt xs) ps ms → AllZip (IsPairAt xs) qs ns → HasAll xs n ps → HasAll xs n qs → ms ≡ ns
same_pairs xs n [] [] [] [] r s a b p q = refl
same_pairs xs n [] [] [] (y ∷ ns) r s a b p q = absurd b
same_pairs xs n [] [] (x ∷ ms) ns r s a b p q = absurd a
same_pairs xs n (k ∷ ps) qs [] ns r s a b p q = absurd a
same_pairs xs n ps (l ∷ qs) ms [] r s a b p q = absurd b
same_pairs xs n [] (l ∷ qs) [] (y ∷ ns) r s a b p q = let c = p l.0 l.1 s.0 b.0.paired in absurd (omega (arith, c.1))
same_pairs xs n [] (l ∷ qs) (x ∷ ms) (y ∷ ns) r s a b p q = absurd a
same_pairs xs n (k ∷ ps) [] (x ∷ ms) ns r s a b p q = let c = q k.0 k.1 r.0 a.0.paired in absurd (omega (arith, c.1))
same_pairs xs n (k ∷ ps) (l ∷ qs) (x ∷ ms) (y ∷ ns) r s a b p q =
    let le : l.1 ≤ k.1 = not_below l.1 (k.0, k.1) (l ∷ qs) (omega arith, s.1) (q k.0 k.1 r.0 a.0.paired) in
    let ge : k.1 ≤ l.1 = not_below k.1 (l.0, l.1) (k ∷ ps) (omega arith, r.1) (p l.0 l.1 s.0 b.0.paired) in
    let at : l.1 ≡ k.1 = omega arith in
    let here : x ≡ y = told_once xs k.0 l.0 k.1 x y a.0 (subst (λ m. IsPairAt xs (l.0, m) y) at b.0) in
    let rest : ms ≡ ns = same_pairs xs (k.1 + 1) ps qs ms ns r.1 (subst (λ m. RiseFrom (m + 1) qs) at s.1) a.1 b.1
    (has_rest xs n k ps r.0 p) (subst (λ m. HasAll xs (m + 1) qs) at (has_rest xs n l qs s.0 q)) in
    λ m. here m ∷ rest m

pub one_list : (xs : List WakeupItem) (ms ns : List Pair) → ArePairs xs ms → ArePairs xs ns → ms ≡ ns
one_list xs ms ns a b = same_pairs xs 0 a.places b.places ms ns a.rise b.rise a.each b.each (λ i j le p. a.all i j p) (λ i j le p. b.all i j p)
