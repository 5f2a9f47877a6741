-- The directives that spell a format text: C11 7.21.6.1, with the kernel's extensions of `%p`
-- (Documentation/core-api/printk-formats.rst).
use Rattle.std.specs.Prelude.{◌≡◌, ◌≢◌, ⊤, ℕ, ◌+◌, ◌<◌, ◌≤◌, List, [], ◌∷◌, ◌++◌, length, drop, slice_index, codes}
use Rattle.std.specs.List.{AllPass, list_any}
use Rattle.std.specs.Prelude.{Bool, ◌==◌}
use Rattle.std.specs.Str.Parse.{digits_value}
use Rattle.fmt_directives.specs.declared.directive.Amount.{Amount}
use Rattle.fmt_directives.specs.declared.directive.Amount.TheVariants.{Absent, Fixed, FromArgument}
use Rattle.fmt_directives.specs.declared.directive.Base.TheVariants as base
use Rattle.fmt_directives.specs.declared.directive.Length.{Length}
use Rattle.fmt_directives.specs.declared.directive.Length.TheVariants as len
use Rattle.fmt_directives.specs.declared.directive.PointerForm.{PointerForm}
use Rattle.fmt_directives.specs.declared.directive.PointerForm.TheVariants as form
use Rattle.fmt_directives.specs.declared.directive.Spec.{Spec}
use Rattle.fmt_directives.specs.declared.directive.Directive.{Directive}
use Rattle.fmt_directives.specs.declared.directive.Directive.TheVariants as directive
use Rattle.fmt_directives.specs.Bytes.{is_flag, is_decimal, is_alphanumeric, is_plain, BeginsOutside}

-- decimal digits of a number up to 65,535
pub record IsNumber (digits : List ℕ) (n : ℕ) : Type 0 where
  pub some : 0 < length digits
  pub each : AllPass is_decimal digits
  pub value : digits_value 10 digits ≡ n
  pub listed : n ≤ 65535

-- a width, or what follows the `.` of a precision
pub data IsAmount : List ℕ → Amount → Type 0 where
  absent : IsAmount [] Absent
  fixed : (digits : List ℕ) (n : ℕ) → IsNumber digits n → IsAmount digits (Fixed n)
  from_argument : IsAmount (codes "*") FromArgument

-- a `.` without digits is a precision of 0
abbrev pub behind_dot : Amount → Amount
behind_dot Absent = Fixed 0
behind_dot (Fixed p) = Fixed p
behind_dot FromArgument = FromArgument

pub data IsPrecision : List ℕ → Amount → Type 0 where
  no_dot : IsPrecision [] Absent
  dot : (text : List ℕ) (amount : Amount) → IsAmount text amount → IsPrecision (46 ∷ text) (behind_dot amount)

abbrev pub length_text : Length → List ℕ
length_text len.Usual = []
length_text len.CharSize = codes "hh"
length_text len.ShortSize = codes "h"
length_text len.LongSize = codes "l"
length_text len.LongLongSize = codes "ll"
length_text len.SizeSize = codes "z"
length_text len.DiffSize = codes "t"
length_text len.MaxSize = codes "j"
length_text len.BigSize = codes "L"

-- what follows the `p` of a pointer
pub data IsForm : List ℕ → PointerForm → Type 0 where
  plain : IsForm [] form.Plain
  name : IsForm (codes "s") form.Name
  function_name : IsForm (codes "f") form.Name
  name_offset : IsForm (codes "S") form.NameOffset
  function_name_offset : IsForm (codes "F") form.NameOffset
  ip4 : IsForm (codes "I4") form.Ip4
  mac : IsForm (codes "M") form.Mac

-- the letter of a conversion
pub data IsKind (spec : Spec) : List ℕ → Directive → Type 0 where
  decimal : IsKind spec (codes "d") (directive.Number spec base.Signed)
  integer : IsKind spec (codes "i") (directive.Number spec base.Signed)
  unsigned : IsKind spec (codes "u") (directive.Number spec base.Unsigned)
  hexadecimal : IsKind spec (codes "x") (directive.Number spec base.Hex)
  upper_hexadecimal : IsKind spec (codes "X") (directive.Number spec base.UpperHex)
  octal : IsKind spec (codes "o") (directive.Number spec base.Octal)
  letter : IsKind spec (codes "c") (directive.Letter spec)
  string : IsKind spec (codes "s") (directive.Text spec)
  pointer : (run : List ℕ) (f : PointerForm) → IsForm run f → IsKind spec (112 ∷ run) (directive.Pointer spec f)

abbrev pub has : List ℕ → ℕ → Bool
has flags flag = list_any (λ b. b == flag) flags

abbrev pub spec_of : List ℕ → Amount → Amount → Length → Spec
spec_of flags width precision length = record { left = has flags 45; zero = has flags 48; plus = has flags 43; space = has flags 32; alternate = has flags 35; width = width; precision = precision; length = length }

-- What follows the percent sign of a conversion: flags, a width, a precision, a length and a letter. A width does
-- not begin with 0, which is a flag.
pub record IsConversion (spelling : List ℕ) (d : Directive) : Type 0 where
  pub flags : List ℕ
  pub width_text : List ℕ
  pub width : Amount
  pub precision_text : List ℕ
  pub precision : Amount
  pub length : Length
  pub kind_text : List ℕ
  pub whole : spelling ≡ flags ++ (width_text ++ (precision_text ++ (length_text length ++ kind_text)))
  pub flags_are : AllPass is_flag flags
  pub width_is : IsAmount width_text width
  pub no_zero : slice_index width_text 0 ≢ 48
  pub precision_is : IsPrecision precision_text precision
  pub kind_is : IsKind (spec_of flags width precision length) kind_text d

-- no letter or digit follows a pointer
abbrev pub Ends : Directive → List ℕ → Type 0
Ends (directive.Pointer spec f) rest = BeginsOutside is_alphanumeric rest
Ends (directive.Literal start end) rest = ⊤
Ends (directive.Number spec base) rest = ⊤
Ends (directive.Letter spec) rest = ⊤
Ends (directive.Text spec) rest = ⊤

-- bytes that stand for themselves, as many as there are
pub record IsRun (at : ℕ) (bytes : List ℕ) (d : Directive) (n : ℕ) : Type 0 where
  pub run : List ℕ
  pub rest : List ℕ
  pub whole : bytes ≡ run ++ rest
  pub some : 0 < length run
  pub each : AllPass is_plain run
  pub ends : BeginsOutside is_plain rest
  pub is : d ≡ directive.Literal at (at + n)
  pub long : n ≡ length run

-- two percent signs; the second is shown
pub record IsPercent (at : ℕ) (bytes : List ℕ) (d : Directive) (n : ℕ) : Type 0 where
  pub rest : List ℕ
  pub whole : bytes ≡ 37 ∷ 37 ∷ rest
  pub is : d ≡ directive.Literal (at + 1) (at + 2)
  pub long : n ≡ 2

-- a percent sign and a conversion
pub record IsConverted (bytes : List ℕ) (d : Directive) (n : ℕ) : Type 0 where
  pub spelling : List ℕ
  pub rest : List ℕ
  pub whole : bytes ≡ 37 ∷ (spelling ++ rest)
  pub is : IsConversion spelling d
  pub ends : Ends d rest
  pub long : n ≡ 1 + length spelling

-- The directive d, of n bytes, stands at the front of the bytes, which begin at a place of the text.
pub data IsPiece (at : ℕ) (bytes : List ℕ) (d : Directive) (n : ℕ) : Type 0 where
  run : IsRun at bytes d n → IsPiece at bytes d n
  percent : IsPercent at bytes d n → IsPiece at bytes d n
  converted : IsConverted bytes d n → IsPiece at bytes d n

-- These directives, one after another, spell the text from one place to another.
abbrev pub SpelledTo : List ℕ → ℕ → List Directive → ℕ → Type 0
SpelledTo text at [] end = at ≡ end
SpelledTo text at (d ∷ ds) end = (n : ℕ) × IsPiece at (drop at text) d n × SpelledTo text (at + n) ds end

-- from its first byte to its last
abbrev pub AreDirectives : List ℕ → List Directive → Type 0
AreDirectives text ds = SpelledTo text 0 ds (length text)

-- directives lead to a place of the text at which none begins
abbrev pub IsUnlisted : List ℕ → Type 0
IsUnlisted text = (ds : List Directive) × (at : ℕ) × SpelledTo text 0 ds at × (at < length text) × ((d : Directive) (n : ℕ) → IsPiece at (drop at text) d n → ⊥)

-- the places of a literal are places of a text of so many bytes
abbrev pub IsWithin : ℕ → Directive → Type 0
IsWithin len (directive.Literal start end) = (start ≤ end) × (end ≤ len)
IsWithin len (directive.Number spec base) = ⊤
IsWithin len (directive.Letter spec) = ⊤
IsWithin len (directive.Text spec) = ⊤
IsWithin len (directive.Pointer spec f) = ⊤
