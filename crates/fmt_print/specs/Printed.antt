-- The text that a plan prints of a record.
use Rattle.std.specs.Prelude.{ℕ, pos, ◌==◌, if◌then◌else◌, List, [], ◌∷◌, ◌++◌, slice_range, unsigned_abs, int_lt}
use Rattle.fmt_directives.specs.declared.directive.Base.{Base}
use Rattle.fmt_directives.specs.declared.directive.Length.{Length}
use Rattle.fmt_directives.specs.declared.directive.Length.TheVariants as len
use Rattle.fmt_directives.specs.declared.directive.Directive.{Directive}
use Rattle.fmt_directives.specs.declared.directive.Directive.TheVariants as directive
use Rattle.symbols.specs.Maps.{Maps}
use Rattle.fmt_expr.specs.Tree.{Tree}
use Rattle.fmt_eval.specs.Operators.{cast_bits}
use Rattle.fmt_eval.specs.Values.{RecData, number_of}
use Rattle.fmt_forms.specs.declared.form.Form.{Form}
use Rattle.fmt_forms.specs.Integers.{integer_text, is_signed}
use Rattle.fmt_print.specs.Strings.{letter_text, string_text}
use Rattle.fmt_print.specs.Addresses.{pointer_text}
use Rattle.fmt_print.specs.Arguments.{taken, by}
use Rattle.fmt_print.specs.Plan.{Plan}

-- how many bits a long of so many bytes has
abbrev pub long_bits : ℕ → ℕ
long_bits long = if long == 4 then 32 else 64

-- how many bits a length asks for
abbrev pub bits_of : Length → ℕ → ℕ
bits_of len.Usual long = 32
bits_of len.CharSize long = 8
bits_of len.ShortSize long = 16
bits_of len.LongSize long = long_bits long
bits_of len.LongLongSize long = 64
bits_of len.SizeSize long = long_bits long
bits_of len.DiffSize long = long_bits long
bits_of len.MaxSize long = 64
bits_of len.BigSize long = 64

-- a number modulo the width of its length
abbrev pub number_text : RecData → ℕ → Length → Base → Form → Tree → List ℕ
number_text g long size base form t =
    let z = (cast_bits (bits_of size long) (is_signed base) (number_of g t).exact).exact in
    integer_text base form (int_lt z (pos 0)) (unsigned_abs z)

-- what is printed from: a record, the maps of symbols, the kernel's long size in bytes and the format text
pub record Source : Type 0 where
  pub given : RecData
  pub maps : Maps
  pub long : ℕ
  pub text : List ℕ

-- the text of one directive, and the arguments after it
abbrev pub printed_one : Source → Directive → List Tree → List ℕ × List Tree
printed_one s (directive.Literal start end) args = (slice_range s.text start end, args)
printed_one s (directive.Number spec base) args = by (number_text s.given s.long spec.length base) (taken s.given spec args)
printed_one s (directive.Letter spec) args = by (letter_text s.given) (taken s.given spec args)
printed_one s (directive.Text spec) args = by (string_text s.given s.maps) (taken s.given spec args)
printed_one s (directive.Pointer spec pointer) args = by (pointer_text pointer s.given s.maps) (taken s.given spec args)

-- the texts of directives, one after another
abbrev pub printed : Source → List Directive → List Tree → List ℕ
printed s [] args = []
printed s (d ∷ ds) args = let one = printed_one s d args in one.0 ++ printed s ds one.1

abbrev pub source_of : Plan → RecData → Maps → Source
source_of plan g maps = record { given = g; maps = maps; long = plan.long; text = plan.text }

unfoldable pub print_text : Plan → RecData → Maps → List ℕ
print_text plan g maps = printed (source_of plan g maps) plan.directives plan.args
