-- Numbers within a range, and what they come to with zeros after them.
use Rattle.std.proofs.Common.{◌≡◌, ℕ, ◌*◌, ◌^◌, ◌<◌, ◌≤◌, Bool, true, false, ltb, ◌&&◌, nat_le, List, length, Option, Some, None, if◌then◌else◌, lit<, refl, arith, inl, inr}
use Rattle.std.specs.List.{list_all}
use Rattle.std.specs.Char.{is_digit}
use Rattle.std.specs.Option.{option_and_then}
use Rattle.std.specs.Str.Parse.{digits_value}
use Rattle.std.proofs.Math.Nat.{mul-le-mul, pow-le-pow_right}
use Rattle.std.proofs.lemmas.Bool.{cases_Bool, lt-ltb}
use Rattle.std.proofs.lemmas.Bool.Decides.{nat_tests}
use Rattle.byte_classes.specs.Digits.{number_written}
use Rattle.byte_classes.proofs.Written.{written_some, written_none}
use Rattle.trace_base.specs.FieldLine.{is_decimal}
use Rattle.word_values.specs.Number.{number_of, within, number_within}

and-false : (b : Bool) → (b && false) ≡ false
and-false true = refl
and-false false = refl

le-false : (n most : ℕ) → most < n → nat_le n most ≡ false
le-false n most h = grind (arith, nat_tests)

above_most : (least most n : ℕ) → most < n → within least most n ≡ None
above_most least most n h = rw (le-false n most h, and-false (nat_le least n)) refl

much : (least most n : ℕ) (all : Bool) → most < n → option_and_then (within least most) (if all then Some n else None) ≡ None
much least most n true h = above_most least most n h
much least most n false h = refl

-- the text spells no number of 64 bits
pub no_number : (least most : ℕ) (text : List ℕ) → most < 2 ^ 64 → None ≡ number_written 10 text → number_within least most text ≡ None
no_number least most text small none = elim (cases_Bool (list_all (λ byte. is_digit byte 10) text)) as (λ _. number_within least most text ≡ None) [
  | inr other ↦ rw (other, and-false (ltb 0 (length text))) refl
  | inl all ↦
      let wide : 2 ^ 64 ≤ digits_value 10 text = written_none 10 text none all in
      much least most (digits_value 10 text) (is_decimal text) (omega (arith, small, wide))
]

-- it spells this one
pub spelled : (least most number : ℕ) (text : List ℕ) → (length text ≡ 0 → ⊥) → Some number ≡ number_written 10 text → within least most number ≡ number_within least most text
spelled least most number text some is =
    let both = written_some 10 text number is in
    let long : ltb 0 (length text) ≡ true = lt-ltb _ _ (omega (arith, some)) in
    let all : list_all (λ byte. is_digit byte 10) text ≡ true = both.0 in
    rw (both.1, long, all) refl

most_by : (least most n m : ℕ) (low high : Bool) → nat_le m most ≡ high → (if low && high then Some m else None) ≡ Some n → n ≤ most
most_by least most n m true true e h = let same : m ≡ n = cc in rw (← same) (grind (arith, nat_tests, e))
most_by least most n m true false e h = cc
most_by least most n m false high e h = cc

most_of : (least most n : ℕ) (number : Option ℕ) → option_and_then (within least most) number ≡ Some n → n ≤ most
most_of least most n None h = cc
most_of least most n (Some m) h = most_by least most n m (nat_le least m) (nat_le m most) refl h

-- a number within a range is at most the most
pub number_within_most : (least most n : ℕ) (text : List ℕ) → number_within least most text ≡ Some n → n ≤ most
number_within_most least most n text h = most_of least most n (number_of text) h

pub power_bound : (places : ℕ) → places ≤ 9 → 10 ^ places ≤ 1000000000
power_bound places h = pow-le-pow_right {n = 10} (lit< tt) h

pub scaled_bound : (part places : ℕ) → part ≤ 999999999 → places ≤ 9 → part * 10 ^ places ≤ 10 ^ 18
scaled_bound part places h k =
    let most : part * 10 ^ places ≤ 999999999 * 1000000000 = mul-le-mul h (power_bound places k) in
    omega (arith, most)
