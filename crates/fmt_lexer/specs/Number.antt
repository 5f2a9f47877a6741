-- Numbers, after C11 6.4.4.1: decimal, `0x` hexadecimal or `0` octal digits, and a suffix.
use Rattle.std.specs.Prelude.{◌≡◌, ◌≢◌, ℕ, ◌^◌, ◌<◌, ◌≤◌, Bool, ◌||◌, ◌==◌, List, [], ◌∷◌, ◌++◌, length, slice_index, codes, IsTrue}
use Rattle.std.specs.List.{AllPass}
use Rattle.std.specs.Char.{is_digit}
use Rattle.std.specs.Str.Parse.{digits_value}
use Rattle.fmt_lexer.specs.declared.number.Base.{Base}
use Rattle.fmt_lexer.specs.declared.number.Base.TheVariants.{Decimal, Hexadecimal, Octal}

abbrev pub radix_of : Base → ℕ
radix_of Decimal = 10
radix_of Hexadecimal = 16
radix_of Octal = 8

abbrev pub prefix_of : Base → List ℕ
prefix_of Decimal = []
prefix_of Hexadecimal = codes "0x"
prefix_of Octal = codes "0"

-- A decimal number begins with a digit other than 0, and a hexadecimal one has a digit. The prefix of an
-- octal one is a digit itself, so nothing need follow it.
abbrev pub HasDigits : Base → List ℕ → Type 0
HasDigits Decimal digits = (0 < length digits) × (slice_index digits 0 ≢ 48)
HasDigits Hexadecimal digits = 0 < length digits
HasDigits Octal digits = Unit {0}

-- `u` and `l`, in either case
abbrev pub is_unsigned : ℕ → Bool
is_unsigned b = b == 117 || b == 85

abbrev pub is_long : ℕ → Bool
is_long b = b == 108 || b == 76

-- no `l`, one or two
pub record AreLongs (longs : List ℕ) : Type 0 where
  pub few : length longs ≤ 2
  pub each : AllPass is_long longs

-- a `u` before the `l`s, after them, or none
pub data IsSuffix : List ℕ → Type 0 where
  unsigned_first : (u : ℕ) (longs : List ℕ) → IsTrue (is_unsigned u) → AreLongs longs → IsSuffix (u ∷ longs)
  unsigned_last : (longs : List ℕ) (u : ℕ) → AreLongs longs → IsTrue (is_unsigned u) → IsSuffix (longs ++ u ∷ [])
  signed : (longs : List ℕ) → AreLongs longs → IsSuffix longs

-- the bytes are a number of 64 bits, with these parts
pub record IsNumber (bytes : List ℕ) (base : Base) (digits suffix : List ℕ) : Type 0 where
  pub whole : bytes ≡ prefix_of base ++ (digits ++ suffix)
  pub some : HasDigits base digits
  pub each : AllPass (λ b. is_digit b (radix_of base)) digits
  pub suffix_is : IsSuffix suffix
  pub fits : digits_value (radix_of base) digits < 2 ^ 64
