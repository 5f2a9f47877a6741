-- The digits of a base, which are letters above 9, and the number that they write.
use Rattle.std.specs.Prelude.{ℕ, ◌^◌, Bool, ◌&&◌, nat_lt, List, Option, Some, None, if◌then◌else◌}
use Rattle.std.specs.List.{list_all}
use Rattle.std.specs.Char.{is_digit}
use Rattle.std.specs.Str.Parse.{digits_value}

-- bytes that are digits of the base
abbrev pub are_digits : ℕ → List ℕ → Bool
are_digits radix text = list_all (λ byte. is_digit byte radix) text

-- the number that they write, where it is one of 64 bits
unfoldable pub number_written : ℕ → List ℕ → Option ℕ
number_written radix text =
    if are_digits radix text && nat_lt (digits_value radix text) (2 ^ 64) then Some (digits_value radix text) else None
