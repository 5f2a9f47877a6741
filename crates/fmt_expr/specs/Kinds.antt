-- The kind of a tree.
use Rattle.std.specs.Prelude.{Bool, true, false, ◌||◌}
use Rattle.fmt_expr.specs.Tree.{Tree, number, literal, field_number, field_text, field_bytes, element, len_of, prefix, cast, chain, choice, flags, symbolic, hex, array}
use Rattle.fmt_expr.specs.declared.kinds.Kind.{Kind}
use Rattle.fmt_expr.specs.declared.kinds.Kind.TheVariants.{Number, Text, Bytes}

abbrev pub kind_of : Tree → Kind
kind_of (number bits kind) = Number
kind_of (literal text) = Text
kind_of (field_number f) = Number
kind_of (field_text f) = Text
kind_of (field_bytes f) = Bytes
kind_of (element f index) = Number
kind_of (len_of f) = Number
kind_of (prefix op t) = Number
kind_of (cast to t) = kind_of t
kind_of (chain t rest) = Number
kind_of (choice test one other) = kind_of one
kind_of (flags t between es) = Text
kind_of (symbolic t es) = Text
kind_of (hex bytes count) = Text
kind_of (array bytes count size) = Text

-- the text of a field, which casts leave as it is
abbrev pub is_field_text : Tree → Bool
is_field_text (field_text f) = true
is_field_text (cast to t) = is_field_text t
is_field_text t = false

abbrev pub same_kind : Kind → Kind → Bool
same_kind Number Number = true
same_kind Text Text = true
same_kind Bytes Bytes = true
same_kind a b = false

abbrev pub is_number : Tree → Bool
is_number t = same_kind (kind_of t) Number

abbrev pub is_alike : Tree → Tree → Bool
is_alike t u = same_kind (kind_of t) (kind_of u)

-- what `__print_hex` and `__print_array` print: bytes, or all bytes of a field's text
abbrev pub has_bytes : Tree → Bool
has_bytes t = same_kind (kind_of t) Bytes || is_field_text t
