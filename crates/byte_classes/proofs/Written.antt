-- The number that digits write, as more of them are read.
use Rattle.std.proofs.Common.{◌≡◌, ℕ, ◌+◌, ◌*◌, ◌^◌, ◌<◌, ◌≤◌, Bool, true, false, ltb, ◌&&◌, List, length, take, get_or, None, Some, refl, sym, ap, ◌∙◌, arith, inl, inr}
use Rattle.std.specs.Char.{is_digit, digit_value}
use Rattle.std.specs.Str.Parse.{digits_value}
use Rattle.std.proofs.lemmas.Bool.{cases_Bool, cases_lt, le-ltb, lt-ltb}
use Rattle.std.proofs.lemmas.List.Folds.{list_all_at, list_all_more}
use Rattle.std.proofs.lemmas.Int.Digits.{digits_value_more}
use Rattle.std.proofs.lemmas.Str.Parse.{digits_value-take-le}
use Rattle.byte_classes.specs.Digits.{are_digits, number_written}

and_false : (b : Bool) → (b && false) ≡ false
and_false true = refl
and_false false = refl

-- a byte is no digit
pub no_digit : (radix : ℕ) (text : List ℕ) (i : ℕ) → i < length text → (digit_value (get_or text i 0) < radix → ⊥) → number_written radix text ≡ None
unfolding number_written
no_digit radix text i inside other =
    let fails : are_digits radix text ≡ false = list_all_at (λ byte. is_digit byte radix) text i 0 inside (le-ltb _ _ (omega (arith, other))) in
    rw fails refl

-- the digits so far write too large a number, and so do all
pub too_long : (radix : ℕ) (text : List ℕ) (i number : ℕ) → 1 ≤ radix → number ≡ digits_value radix (take i text) → (number < 2 ^ 64 → ⊥) → number_written radix text ≡ None
unfolding number_written
too_long radix text i number some is never =
    let more : digits_value radix (take i text) ≤ digits_value radix text = digits_value-take-le radix text i some in
    let fails : ltb (digits_value radix text) (2 ^ 64) ≡ false = le-ltb _ _ (omega (arith, is, never, more)) in
    rw (fails, and_false (are_digits radix text)) refl

-- all are digits of a number that fits
pub all_digits : (radix : ℕ) (text : List ℕ) → are_digits radix text ≡ true → digits_value radix text < 2 ^ 64 → number_written radix text ≡ Some (digits_value radix text)
unfolding number_written
all_digits radix text all few =
    let fits : ltb (digits_value radix text) (2 ^ 64) ≡ true = lt-ltb _ _ few in
    rw (all, fits) refl

-- one more digit
pub longer : (radix : ℕ) (text : List ℕ) (i number digit : ℕ) → i < length text → digit ≡ digit_value (get_or text i 0) → number ≡ digits_value radix (take i text) → number * radix + digit ≡ digits_value radix (take (i + 1) text)
longer radix text i number digit inside d e =
    ap (λ (n : ℕ). n * radix + digit) e ∙ ap (λ (n : ℕ). digits_value radix (take i text) * radix + n) d ∙ sym (digits_value_more radix text i inside)

pub digits_more : (radix : ℕ) (text : List ℕ) (i : ℕ) → i < length text → are_digits radix (take i text) ≡ true → digit_value (get_or text i 0) < radix → are_digits radix (take (i + 1) text) ≡ true
digits_more radix text i inside before digit =
    let passes : is_digit (get_or text i 0) radix ≡ true = lt-ltb _ _ digit in
    list_all_more (λ byte. is_digit byte radix) text i 0 inside ∙ rw (before, passes) refl

-- what an answer says of the digits
pub written_some : (radix : ℕ) (text : List ℕ) (number : ℕ) → Some number ≡ number_written radix text → (are_digits radix text ≡ true) × (number ≡ digits_value radix text)
unfolding number_written
written_some radix text number is = elim (cases_Bool (are_digits radix text)) as (λ _. (are_digits radix text ≡ true) × (number ≡ digits_value radix text)) [
  | inr other ↦ let never : Some number ≡ None = rw other at is in absurd cc
  | inl all ↦ elim (cases_lt (digits_value radix text) (2 ^ 64)) as (λ _. (are_digits radix text ≡ true) × (number ≡ digits_value radix text)) [
    | inr past ↦
        let fails : ltb (digits_value radix text) (2 ^ 64) ≡ false = le-ltb _ _ past in
        let never : Some number ≡ None = rw (all, fails) at is in absurd cc
    | inl less ↦
        let fits : ltb (digits_value radix text) (2 ^ 64) ≡ true = lt-ltb _ _ less in
        let same : Some number ≡ Some (digits_value radix text) = rw (all, fits) at is in (all, cc)
  ]
]

pub written_none : (radix : ℕ) (text : List ℕ) → None ≡ number_written radix text → are_digits radix text ≡ true → 2 ^ 64 ≤ digits_value radix text
unfolding number_written
written_none radix text none all = elim (cases_lt (digits_value radix text) (2 ^ 64)) as (λ _. 2 ^ 64 ≤ digits_value radix text) [
  | inr past ↦ past
  | inl less ↦
      let fits : ltb (digits_value radix text) (2 ^ 64) ≡ true = lt-ltb _ _ less in
      let never : None ≡ Some (digits_value radix text) = rw (all, fits) at none in absurd cc
]
