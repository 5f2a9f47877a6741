-- Where a binary search ends among numbers that rise.
use Rattle.std.proofs.Common.{◌≡◌, ℕ, ◌-◌, ◌<◌, ◌≤◌, List, length, get_or, arith, inl, inr, ap}
use Rattle.std.proofs.lemmas.Bool.{cases_lt}
use Rattle.symbols.specs.Search.{RisesKeys, IsLastUpTo}

pub not_falls : (keys : List ℕ) → RisesKeys keys → (i j : ℕ) → i ≤ j → j < length keys → get_or keys i 0 ≤ get_or keys j 0
not_falls keys rises i j le inside = elim (cases_lt i j) as (λ _. get_or keys i 0 ≤ get_or keys j 0) [
  | inl less ↦ omega (arith, rises i j less inside)
  | inr back ↦ let same : i ≡ j = omega (arith, le, back) in omega (arith, ap (λ (n : ℕ). get_or keys n 0) same)
]

pub at_key : (keys : List ℕ) (key i : ℕ) → RisesKeys keys → i < length keys → get_or keys i 0 ≡ key → IsLastUpTo keys key i
at_key keys key i rises inside is = record {
  inside = inside;
  within = omega (arith, is);
  past = λ k more within. omega (arith, is, rises i k more within);
}

pub before_place : (keys : List ℕ) (key i : ℕ) → 0 < i → i ≤ length keys → ((k : ℕ) → k < i → get_or keys k 0 < key) → ((k : ℕ) → i ≤ k → k < length keys → key < get_or keys k 0) → IsLastUpTo keys key (i - 1)
before_place keys key i some inside below past = record {
  inside = omega (arith, some, inside);
  within = omega (arith, below (i - 1) (omega (arith, some)));
  past = λ k more within. past k (omega (arith, more, some)) within;
}
