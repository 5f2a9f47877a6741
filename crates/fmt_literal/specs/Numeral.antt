-- What a number is: its value, and its kind (C11 6.4.4.1, paragraphs 4 and 5).
use Rattle.std.specs.Prelude.{◌≡◌, ℕ, ◌*◌, ◌^◌, Bool, true, false, not, ◌&&◌, ◌||◌, ◌==◌, nat_lt, nat_le, List, Option, count_by, if◌then◌else◌}
use Rattle.std.specs.List.{list_any}
use Rattle.std.specs.Option.{option_map}
use Rattle.std.specs.Str.Parse.{digits_value}
use Rattle.fmt_lexer.specs.declared.number.Base.{Base}
use Rattle.fmt_lexer.specs.declared.number.Base.TheVariants.{Decimal, Hexadecimal, Octal}
use Rattle.fmt_lexer.specs.Number.{radix_of, is_unsigned, is_long, IsNumber}
use Rattle.fmt_lexer.specs.Reading.{number_parts}
use Rattle.fmt_literal.specs.declared.ckind.CKind.{CKind}
use Rattle.fmt_literal.specs.declared.ckind.CKind.TheVariants.{I32, U32, I64, U64}

abbrev pub width_of : CKind → ℕ
width_of I32 = 32
width_of U32 = 32
width_of I64 = 64
width_of U64 = 64

abbrev pub has_sign : CKind → Bool
has_sign I32 = true
has_sign U32 = false
has_sign I64 = true
has_sign U64 = false

-- the numbers of a kind are below this
abbrev pub limit_of : CKind → ℕ
limit_of I32 = 2 ^ 31
limit_of U32 = 2 ^ 32
limit_of I64 = 2 ^ 63
limit_of U64 = 2 ^ 64

abbrev pub is_decimal : Base → Bool
is_decimal Decimal = true
is_decimal Hexadecimal = false
is_decimal Octal = false

-- a `u` in the suffix
abbrev pub says_unsigned : List ℕ → Bool
says_unsigned suffix = list_any is_unsigned suffix

-- The kinds with a sign are those of numbers without `u`; the kinds without a sign are those of numbers with `u`, and
-- of numbers that are not decimal.
abbrev pub may_sign : Base → List ℕ → Bool → Bool
may_sign base suffix true = not (says_unsigned suffix)
may_sign base suffix false = says_unsigned suffix || not (is_decimal base)

-- the fewest bits that the `l`s of a suffix ask for, where the kernel's long has so many bytes
abbrev pub least_width : List ℕ → ℕ → ℕ
least_width suffix long =
    let longs = count_by is_long suffix in
    if longs == 0 then 32 else (if longs == 1 then 8 * long else 64)

-- whether a number may have a kind
abbrev pub may_have : Base → List ℕ → ℕ → ℕ → CKind → Bool
may_have base suffix long n kind = (nat_le (least_width suffix long) (width_of kind) && may_sign base suffix (has_sign kind)) && nat_lt n (limit_of kind)

-- The first kind that a number may have. A decimal number that no kind with a sign holds has no kind in C: it is
-- taken as one without a sign, as compilers take it.
unfoldable pub kind_of_number : Base → List ℕ → ℕ → ℕ → CKind
kind_of_number base suffix long n =
    if may_have base suffix long n I32 then I32
    else (if may_have base suffix long n U32 then U32
    else (if may_have base suffix long n I64 then I64
    else U64))

-- the bytes spell the number n of the kind
pub record IsNumeral (bytes : List ℕ) (long n : ℕ) (kind : CKind) : Type 0 where
  pub base : Base
  pub digits : List ℕ
  pub suffix : List ℕ
  pub parts : IsNumber bytes base digits suffix
  pub value : n ≡ digits_value (radix_of base) digits
  pub kind_is : kind ≡ kind_of_number base suffix long n

-- the number of the parts of a spelling
abbrev pub number_with : ℕ → Base × List ℕ × List ℕ → ℕ × CKind
number_with long p = (digits_value (radix_of p.0) p.1, kind_of_number p.0 p.2 long (digits_value (radix_of p.0) p.1))

-- the number that bytes spell, and its kind
unfoldable pub numeral_of : List ℕ → ℕ → Option (ℕ × CKind)
numeral_of bytes long = option_map (number_with long) (number_parts bytes)
