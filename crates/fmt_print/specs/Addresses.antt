-- The conversions of addresses: `p` and its extensions (Documentation/core-api/printk-formats.rst).
use Rattle.std.specs.Prelude.{ℕ, Bool, true, false, List, [], ◌∷◌, ◌++◌, map, slice_index, codes, Option, Some, None}
use Rattle.std.specs.Fmt.{decimal}
use Rattle.fmt_directives.specs.declared.directive.PointerForm.{PointerForm}
use Rattle.fmt_directives.specs.declared.directive.PointerForm.TheVariants.{Plain, Name, NameOffset, Ip4, Mac}
use Rattle.symbols.specs.NameMap.{nearest}
use Rattle.symbols.specs.Maps.{Maps}
use Rattle.fmt_expr.specs.Tree.{Tree}
use Rattle.fmt_expr.specs.Kinds.{kind_of}
use Rattle.fmt_expr.specs.declared.kinds.Kind.{Kind}
use Rattle.fmt_expr.specs.declared.kinds.Kind.TheVariants as kinds
use Rattle.fmt_eval.specs.Values.{RecData}
use Rattle.fmt_eval.specs.Bytes.{bytes_of}
use Rattle.fmt_eval.specs.Texts.{text_of}
use Rattle.trace_base.specs.Digits.{two_digits}
use Rattle.fmt_eval.specs.Pieces.{join, hexadecimal}
use Rattle.fmt_forms.specs.declared.form.Form.{Form}
use Rattle.fmt_forms.specs.Texts.{padded}
use Rattle.fmt_print.specs.Strings.{address_of}

-- the name of a symbol, and how far past it the address is
abbrev pub name_or : ℕ → Option (List ℕ × ℕ) → List ℕ
name_or address None = hexadecimal address
name_or address (Some found) = found.0

abbrev pub offset_or : ℕ → Option (List ℕ × ℕ) → List ℕ
offset_or address None = hexadecimal address
offset_or address (Some found) = found.0 ++ (codes "+" ++ hexadecimal found.1)

-- the first bytes; those that are missing are 0
abbrev pub four_bytes : List ℕ → List ℕ
four_bytes bytes = slice_index bytes 0 ∷ slice_index bytes 1 ∷ slice_index bytes 2 ∷ slice_index bytes 3 ∷ []

abbrev pub six_bytes : List ℕ → List ℕ
six_bytes bytes = slice_index bytes 0 ∷ slice_index bytes 1 ∷ slice_index bytes 2 ∷ slice_index bytes 3 ∷ slice_index bytes 4 ∷ slice_index bytes 5 ∷ []

-- an IPv4 address, or else a hardware address
abbrev pub network_text : Bool → List ℕ → List ℕ
network_text true bytes = join (codes ".") (map decimal (four_bytes bytes))
network_text false bytes = join (codes ":") (map two_digits (six_bytes bytes))

-- of a number: the address, or the symbol that stands there
abbrev pub number_address : PointerForm → ℕ → Maps → List ℕ
number_address Plain address maps = hexadecimal address
number_address Name address maps = name_or address (nearest address maps.symbols)
number_address NameOffset address maps = offset_or address (nearest address maps.symbols)
number_address Ip4 address maps = hexadecimal address
number_address Mac address maps = hexadecimal address

-- of a text or of bytes: the address of the network that they begin with, and else 0, whatever symbol stands there
abbrev pub bytes_address : PointerForm → List ℕ → List ℕ
bytes_address Plain bytes = hexadecimal 0
bytes_address Name bytes = hexadecimal 0
bytes_address NameOffset bytes = hexadecimal 0
bytes_address Ip4 bytes = network_text true bytes
bytes_address Mac bytes = network_text false bytes

-- what is shown of an argument of a kind
abbrev pub address_by : Kind → PointerForm → RecData → Maps → Tree → List ℕ
address_by kinds.Number pointer g maps t = number_address pointer (address_of g t) maps
address_by kinds.Text pointer g maps t = bytes_address pointer (text_of g t)
address_by kinds.Bytes pointer g maps t = bytes_address pointer (bytes_of g t)

abbrev pub address_text : PointerForm → RecData → Maps → Tree → List ℕ
address_text pointer g maps t = address_by (kind_of t) pointer g maps t

abbrev pub pointer_text : PointerForm → RecData → Maps → Form → Tree → List ℕ
pointer_text pointer g maps form t = padded form.left form.width (address_text pointer g maps t)
