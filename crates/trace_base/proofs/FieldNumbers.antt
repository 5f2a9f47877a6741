-- The number that decimal digits write.
use Rattle.std.proofs.Common.{◌≡◌, ℕ, ◌^◌, ◌≤◌, Bool, true, false, ltb, ◌&&◌, List, [], ◌∷◌, length, None, Some, if◌then◌else◌, refl, arith, inl, inr}
use Rattle.std.proofs.lemmas.Bool.{cases_Bool, le-ltb, lt-ltb}
use Rattle.std.specs.List.{list_all}
use Rattle.std.specs.Char.{is_digit}
use Rattle.std.specs.Str.Parse.{digits_value}
use Rattle.byte_classes.specs.Digits.{number_written}
use Rattle.byte_classes.proofs.Written.{written_some, written_none}
use Rattle.trace_base.specs.FieldLine.{is_decimal, decimal}

abbrev pub digits : List ℕ → Bool
digits text = list_all (λ byte. is_digit byte 10) text

and_false : (b : Bool) → (b && false) ≡ false
and_false true = refl
and_false false = refl

pub no_digits : (text : List ℕ) → length text ≡ 0 → decimal text ≡ None
unfolding decimal
no_digits [] none = refl
no_digits (byte ∷ bytes) none = absurd (omega arith)

pub no_number : (text : List ℕ) → None ≡ number_written 10 text → decimal text ≡ None
unfolding decimal
no_number text none = elim (cases_Bool (digits text)) as (λ _. decimal text ≡ None) [
  | inr other ↦ rw (other, and_false (ltb 0 (length text))) refl
  | inl all ↦
      let wide : 2 ^ 64 ≤ digits_value 10 text = written_none 10 text none all in
      let fails : ltb (digits_value 10 text) (2 ^ 32) ≡ false = le-ltb _ _ (omega (arith, wide)) in
      rw (fails, and_false (is_decimal text)) refl
]

pub narrow_is : (text : List ℕ) (number : ℕ) → (length text ≡ 0 → ⊥) → Some number ≡ number_written 10 text → (if ltb number (2 ^ 32) then Some number else None) ≡ decimal text
unfolding decimal
narrow_is text number some is =
    let both = written_some 10 text number is in
    let long : ltb 0 (length text) ≡ true = lt-ltb _ _ (omega (arith, some)) in
    let all : digits text ≡ true = both.0 in
    rw (both.1, long, all) refl
