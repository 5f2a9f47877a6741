-- The first NUL of texts that are joined.
use Rattle.std.proofs.Common.{◌≡◌, ℕ, ◌+◌, ◌<◌, ◌≤◌, min, List, [], ◌∷◌, ◌++◌, length, Some, refl, ap, length-append, arith, inl, inr}
use Rattle.std.specs.Option.{option_or}
use Rattle.std.specs.List.{prefix_len}
use Rattle.std.proofs.lemmas.Bool.{cases_Bool, cases_lt, lt-ltb, le-ltb}
use Rattle.trace_base.specs.Kept.{most, is_letter, nul_in}

pub prefix_within : (bytes : List ℕ) → prefix_len is_letter bytes ≤ length bytes
prefix_within [] = omega arith
prefix_within (b ∷ bytes) = elim (cases_Bool (is_letter b)) as (λ _. prefix_len is_letter (b ∷ bytes) ≤ length (b ∷ bytes)) [
  | inl is ↦ rw is (omega (arith, prefix_within bytes))
  | inr none ↦ rw none (omega arith)
]

prefix_first : (xs ys : List ℕ) → prefix_len is_letter xs < length xs → prefix_len is_letter (xs ++ ys) ≡ prefix_len is_letter xs
prefix_first [] ys less = absurd (omega arith)
prefix_first (x ∷ xs) ys less = elim (cases_Bool (is_letter x)) as (λ _. prefix_len is_letter (x ∷ (xs ++ ys)) ≡ prefix_len is_letter (x ∷ xs)) [
  | inl is ↦ rw is (ap (λ (n : ℕ). 1 + n) (prefix_first xs ys (omega (arith, (rw is at less)))))
  | inr none ↦ rw none refl
]

prefix_all : (xs ys : List ℕ) → prefix_len is_letter xs ≡ length xs → prefix_len is_letter (xs ++ ys) ≡ length xs + prefix_len is_letter ys
prefix_all [] ys all = omega arith
prefix_all (x ∷ xs) ys all = elim (cases_Bool (is_letter x)) as (λ _. prefix_len is_letter (x ∷ (xs ++ ys)) ≡ length (x ∷ xs) + prefix_len is_letter ys) [
  | inl is ↦ rw is (omega (arith, prefix_all xs ys (omega (arith, (rw is at all)))))
  | inr none ↦ absurd (omega (arith, (rw none at all)))
]

pub nul_first : (total : ℕ) (xs ys : List ℕ) → prefix_len is_letter xs < length xs → option_or (nul_in total xs) (nul_in (min (total + length xs) most) ys) ≡ nul_in total (xs ++ ys)
nul_first total xs ys less =
    rw (lt-ltb (prefix_len is_letter xs) (length xs) less)
    (rw (prefix_first xs ys less) (rw (lt-ltb (prefix_len is_letter xs) (length (xs ++ ys)) (omega (arith, length-append xs ys))) refl))

pub nul_later : (total : ℕ) (xs ys : List ℕ) → prefix_len is_letter xs ≡ length xs → option_or (nul_in total xs) (nul_in (min (total + length xs) most) ys) ≡ nul_in total (xs ++ ys)
nul_later total xs ys all =
    let p : ℕ = prefix_len is_letter ys in
    let both : prefix_len is_letter (xs ++ ys) ≡ length xs + p = prefix_all xs ys all in
    let long : length (xs ++ ys) ≡ length xs + length ys = length-append xs ys in
    rw (le-ltb (prefix_len is_letter xs) (length xs) (omega (arith, all)))
    (elim (cases_lt p (length ys)) as (λ _. nul_in (min (total + length xs) most) ys ≡ nul_in total (xs ++ ys)) [
      | inl less ↦ rw (lt-ltb p (length ys) less) (rw (lt-ltb (prefix_len is_letter (xs ++ ys)) (length (xs ++ ys)) (omega (arith, both, long))) (ap (λ (n : ℕ). Some n) (omega (arith, both))))
      | inr full ↦ rw (le-ltb p (length ys) full) (rw (le-ltb (prefix_len is_letter (xs ++ ys)) (length (xs ++ ys)) (omega (arith, both, long))) refl)
    ])
