-- Steps among numbers that rise, from a place whose number is at most one towards a place whose number is above it.
use Rattle.std.proofs.Common.{◌⊎◌, ℕ, ◌+◌, ◌<◌, ◌≤◌, List, length, slice_index, inl, inr, sym, ap, subst, arith}
use Rattle.std.proofs.lemmas.Bool.{cases_lt}
use Rattle.std.proofs.Math.Nat.{eq-or-lt_of_le}
use Rattle.symbols.specs.Search.{IsAdvanced, IsLastUpTo, RisesKeys}

module _ (keys : List ℕ) (key from : ℕ) where
  -- after so many steps no further one is to be taken, or each of them was taken
  pub record HasStepped (steps at : ℕ) : Type 0 where
    pub within : slice_index keys at ≤ key
    pub last : (key < slice_index keys (at + 1)) ⊎ (from + steps ≤ at)

  pub first_step : slice_index keys from ≤ key → HasStepped 0 from
  first_step first = record { within = first; last = inr (omega arith) }

  pub next_step : (steps at now : ℕ) → HasStepped steps at → IsAdvanced keys key at now → HasStepped (steps + 1) now
  next_step steps at now before next = elim next as (λ _. HasStepped (steps + 1) now) [
    | inl on ↦ record {
      within = subst (λ (n : ℕ). slice_index keys n ≤ key) (sym on.0) on.1;
      last = elim before.last as (λ _. (key < slice_index keys (now + 1)) ⊎ (from + (steps + 1) ≤ now)) [
        | inl none ↦ absurd (omega (arith, none, on.1))
        | inr all ↦ inr (omega (arith, all, on.0))
      ];
    }
    | inr stays ↦ record {
      within = subst (λ (n : ℕ). slice_index keys n ≤ key) (sym stays.0) before.within;
      last = inl (subst (λ (n : ℕ). key < slice_index keys (n + 1)) (sym stays.0) stays.1);
    }
  ]

  module _ (rises : RisesKeys keys) (to : ℕ) (inside : to < length keys) (above : key < slice_index keys to) where
    before_end : (at : ℕ) → at < length keys → slice_index keys at ≤ key → at < to
    before_end at lt within = elim (cases_lt at to) as (λ _. at < to) [
      | inl less ↦ less
      | inr more ↦ elim (eq-or-lt_of_le more) as (λ _. at < to) [
        | inl same ↦ absurd (omega (arith, within, above, ap (slice_index keys) same))
        | inr later ↦ absurd (omega (arith, within, above, rises to at later lt))
      ]
    ]

    -- a step from before the end does not come to it
    pub inside_next : (steps at now : ℕ) → at < to → IsAdvanced keys key at now → HasStepped steps now → now < to
    inside_next steps at now less next done = before_end now (elim next as (λ _. now < length keys) [
      | inl on ↦ omega (arith, on.0, less, inside)
      | inr stays ↦ omega (arith, stays.0, less, inside)
    ]) done.within

    past_next : (at : ℕ) → key < slice_index keys (at + 1) → (k : ℕ) → at < k → k < length keys → key < slice_index keys k
    past_next at next k after lt = elim (eq-or-lt_of_le after) as (λ _. key < slice_index keys k) [
      | inl same ↦ subst (λ (n : ℕ). key < slice_index keys n) (omega (arith, same)) next
      | inr later ↦ omega (arith, next, rises (at + 1) k (omega (arith, later)) lt)
    ]

    pub last_step : (steps at : ℕ) → to ≤ from + (steps + 1) → at < to → HasStepped steps at → IsLastUpTo keys key at
    last_step steps at few less done = record {
      inside = omega (arith, less, inside);
      within = done.within;
      past = past_next at (elim done.last as (λ _. key < slice_index keys (at + 1)) [
        | inl none ↦ none
        | inr all ↦ subst (λ (n : ℕ). key < slice_index keys n) (omega (arith, all, few, less)) above
      ]);
    }
