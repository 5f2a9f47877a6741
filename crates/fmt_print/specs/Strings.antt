-- The conversions of a byte and of a text (C11 7.21.6.1, `c` and `s`). A text that is a number is the printk format at that
-- address, or else the number.
use Rattle.std.specs.Prelude.{ℕ, ◌%◌, ◌^◌, List, [], ◌∷◌, Option, Some, None}
use Rattle.std.specs.Option.{unwrap_or}
use Rattle.trace_base.specs.Kept.{most}
use Rattle.symbols.specs.NameMap.{first_at}
use Rattle.symbols.specs.Maps.{Maps}
use Rattle.fmt_expr.specs.Tree.{Tree}
use Rattle.fmt_expr.specs.Kinds.{kind_of}
use Rattle.fmt_expr.specs.declared.kinds.Kind.{Kind}
use Rattle.fmt_expr.specs.declared.kinds.Kind.TheVariants.{Number, Text, Bytes}
use Rattle.fmt_eval.specs.Numbers.{pattern}
use Rattle.fmt_eval.specs.Values.{RecData, number_of}
use Rattle.fmt_eval.specs.Bytes.{bytes_of}
use Rattle.fmt_eval.specs.Pieces.{hexadecimal}
use Rattle.trace_base.specs.Kept.{until_nul}
use Rattle.fmt_eval.specs.Texts.{text_of}
use Rattle.fmt_forms.specs.declared.form.Form.{Form}
use Rattle.fmt_forms.specs.Texts.{padded, cut_to}

-- the 64 bits of a number; 0 of a text or bytes
abbrev pub address_of : RecData → Tree → ℕ
address_of g t = pattern (number_of g t).exact

abbrev pub letter_text : RecData → Form → Tree → List ℕ
letter_text g form t = padded form.left form.width (address_of g t % 2 ^ 8 ∷ [])

-- what `s` shows of an argument of a kind
abbrev pub string_by : Kind → RecData → Maps → Tree → List ℕ
string_by Number g maps t = unwrap_or (first_at (address_of g t) maps.printk) (hexadecimal (address_of g t))
string_by Text g maps t = until_nul (text_of g t)
string_by Bytes g maps t = until_nul (bytes_of g t)

abbrev pub string_text : RecData → Maps → Form → Tree → List ℕ
string_text g maps form t = padded form.left form.width (cut_to form.precision (string_by (kind_of t) g maps t))

-- no precision is above every length that is told
abbrev pub limit_of : Option ℕ → ℕ
limit_of None = most
limit_of (Some p) = p
