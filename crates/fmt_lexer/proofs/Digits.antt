-- The number that digits of a base write.
use Rattle.std.proofs.Common.{◌≡◌, ℕ, ◌^◌, ◌<◌, true, false, ltb, List, Option, Some, None, refl, sym, subst, arith, inl, inr}
use Rattle.std.specs.Char.{is_digit}
use Rattle.std.specs.List.{AllPass}
use Rattle.std.specs.Option.{SomeIff}
use Rattle.std.specs.Str.Parse.{digits_value}
use Rattle.std.proofs.lemmas.Bool.{cases_lt, le-ltb, lt-ltb}
use Rattle.std.proofs.lemmas.List.Sums.{list_all-from_AllPass}
use Rattle.byte_classes.specs.Digits.{are_digits, number_written}

pub written_is : (radix : ℕ) (digits : List ℕ) (number : Option ℕ) → AllPass (λ b. is_digit b radix) digits → number ≡ number_written radix digits → SomeIff number (digits_value radix digits < 2 ^ 64) (digits_value radix digits)
unfolding number_written
written_is radix digits number each is =
    let all : are_digits radix digits ≡ true = list_all-from_AllPass (λ b. is_digit b radix) digits each in
    elim (cases_lt (digits_value radix digits) (2 ^ 64)) as (λ _. SomeIff number (digits_value radix digits < 2 ^ 64) (digits_value radix digits)) [
      | inl less ↦
          let fits : ltb (digits_value radix digits) (2 ^ 64) ≡ true = lt-ltb _ _ less in
          let found : number ≡ Some (digits_value radix digits) = rw (all, fits) at is in
          subst (λ (o : Option ℕ). SomeIff o (digits_value radix digits < 2 ^ 64) (digits_value radix digits)) (sym found) (less, refl)
      | inr past ↦
          let fails : ltb (digits_value radix digits) (2 ^ 64) ≡ false = le-ltb _ _ past in
          let none : number ≡ None = rw (all, fails) at is in
          subst (λ (o : Option ℕ). SomeIff o (digits_value radix digits < 2 ^ 64) (digits_value radix digits)) (sym none) (λ less. omega (arith, less, past))
    ]
