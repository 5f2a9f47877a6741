-- The extremes of a list, one element after another.
use Rattle.std.proofs.Common.{◌≡◌, ℕ, zero, suc, ◌<◌, ◌≤◌, Bool, true, false, ltb, if◌then◌else◌, List, [], ◌∷◌, ◌++◌, length, slice_get, Some, fold, refl, sym, ap, subst, ◌∙◌, append_assoc, append-nil, inl, inr, arith}
use Rattle.std.proofs.lemmas.Bool.{cases_Bool, cases_eq, ltb-true, ltb-false}
use Rattle.std.proofs.lemmas.Option.{slice_get_within, same_Some}
use Rattle.wakeup_pairs.specs.declared.wakeup_item.Pair.{Pair}
use Rattle.wakeup_pairs.proofs.Places.{get_front, get_last, length_more}
use Rattle.wakeup_pairs.specs.Figures.{latency, longest, shortest, IsFirstBy, IsLongest, IsShortest}

module _ (xs : List Pair) (x : Pair) where
  -- what stands at a place of a list with one more is that one, or stood there before
  either : {P : Pair → Type 0} → ((k : ℕ) (other : Pair) → k < length xs → slice_get xs k ≡ Some other → P other) → P x
      → (k : ℕ) (other : Pair) → slice_get (xs ++ x ∷ []) k ≡ Some other → P other
  either {P} old new k other e = elim (cases_eq k (length xs)) [
    | inl same ↦ subst P (same_Some x other (sym (get_last xs x) ∙ subst (λ n. slice_get (xs ++ x ∷ []) n ≡ Some other) same e)) new
    | inr apart ↦
        let within : k < length (xs ++ x ∷ []) = slice_get_within (xs ++ x ∷ []) k other e in
        let lt : k < length xs = omega (arith, length_more xs x, apart, within) in
        old k other lt (sym (get_front xs x k lt) ∙ e)
  ]

only : (first other : Pair) (k : ℕ) → slice_get (first ∷ []) k ≡ Some other → latency other ≡ latency first
only first other zero e = ap latency (sym (same_Some first other e))
only first other (suc k) e = absurd (omega (arith, slice_get_within (first ∷ []) (suc k) other e))

-- by a test whether of two latencies the second is the better one
module _ (beats : ℕ → ℕ → Bool) (within short : ℕ → ℕ → Type 0)
    (yes : (m n : ℕ) → beats m n ≡ true → short m n) (no : (m n : ℕ) → beats m n ≡ false → within n m)
    (weaker : (m n : ℕ) → short m n → within m n) (further : (l m n : ℕ) → within l m → short m n → short l n) (same : (n : ℕ) → within n n) where
  abbrev better : Pair → Pair → Pair
  better one two = if beats (latency one) (latency two) then two else one

  one_more : (xs : List Pair) (x one : Pair) → IsFirstBy within short xs one → IsFirstBy within short (xs ++ x ∷ []) (better one x)
  one_more xs x one h = elim (cases_Bool (beats (latency one) (latency x))) as (λ _. IsFirstBy within short (xs ++ x ∷ []) (better one x)) [
    | inl beaten ↦
        let short_of : short (latency one) (latency x) = yes (latency one) (latency x) beaten in
        rw beaten (record {
          i = length xs;
          there = get_last xs x;
          all = either xs x {P = λ o. within (latency o) (latency x)}
              (λ k other b e. weaker (latency other) (latency x) (further (latency other) (latency one) (latency x) (h.all k other e) short_of)) (same (latency x));
          first = λ k other b e. further (latency other) (latency one) (latency x) (h.all k other (sym (get_front xs x k b) ∙ e)) short_of;
        })
    | inr not_beaten ↦
        let inside : h.i < length xs = slice_get_within xs h.i one h.there in
        rw not_beaten (record {
          i = h.i;
          there = get_front xs x h.i inside ∙ h.there;
          all = either xs x {P = λ o. within (latency o) (latency one)} (λ k other b e. h.all k other e) (no (latency one) (latency x) not_beaten);
          first = λ k other b e. h.first k other b (sym (get_front xs x k (omega (arith, b, inside))) ∙ e);
        })
  ]

  all_more : (xs ys : List Pair) (one : Pair) → IsFirstBy within short xs one → IsFirstBy within short (xs ++ ys) (fold better one ys)
  all_more xs [] one h = subst (λ zs. IsFirstBy within short zs one) (sym (append-nil xs)) h
  all_more xs (y ∷ ys) one h = subst (λ zs. IsFirstBy within short zs (fold better (better one y) ys)) (append_assoc xs (y ∷ []) ys) (all_more (xs ++ y ∷ []) ys (better one y) (one_more xs y one h))

  best_is : (first : Pair) (rest : List Pair) → IsFirstBy within short (first ∷ rest) (fold better first rest)
  best_is first rest = all_more (first ∷ []) rest first (record {
    i = 0;
    there = refl;
    all = λ k other e. subst (λ n. within n (latency first)) (sym (only first other k e)) (same (latency first));
    first = λ k other b e. absurd (omega arith);
  })

pub longest_is : (first : Pair) (rest : List Pair) → IsLongest (first ∷ rest) (longest first rest)
longest_is = best_is (λ m n. ltb m n) (λ other best. other ≤ best) (λ other best. other < best) ltb-true ltb-false
    (λ m n lt. omega (arith, lt)) (λ l m n le lt. omega (arith, le, lt)) (λ n. omega arith)

pub shortest_is : (first : Pair) (rest : List Pair) → IsShortest (first ∷ rest) (shortest first rest)
shortest_is = best_is (λ m n. ltb n m) (λ other best. best ≤ other) (λ other best. best < other) (λ m n lt. ltb-true n m lt) (λ m n le. ltb-false n m le)
    (λ m n lt. omega (arith, lt)) (λ l m n le lt. omega (arith, le, lt)) (λ n. omega arith)
