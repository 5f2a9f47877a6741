-- What stands for a field of a record.
use Rattle.std.specs.Prelude.{ℕ, ◌+◌, Bool, false, Option, Some, codes}
use Rattle.fmt_expr.specs.Tree.{Tree, field_number, field_text, field_bytes, len_of}
use Rattle.fmt_expr.specs.Source.{Source, name_at, is_mark, is_dynamic}
use Rattle.trace_base.specs.Fields.{field_named, is_size}
use Rattle.trace_base.specs.OptionSteps.{◌>>=◌}
use Rattle.fmt_expr.specs.Steps.{◌>>◌}
use Rattle.fmt_expr.specs.declared.head.Got.{Got}
use Rattle.fmt_expr.specs.declared.head.Got.TheVariants as got
use Rattle.trace_base.specs.declared.field.Field.{Field}
use Rattle.trace_base.specs.declared.field.FieldKind.{FieldKind}
use Rattle.trace_base.specs.declared.field.FieldKind.TheVariants.{Number, Text, Bytes, Pointer}

abbrev pub field_tree : Field → FieldKind → Tree
field_tree f Number = field_number f
field_tree f Pointer = field_number f
field_tree f Text = field_text f
field_tree f Bytes = field_bytes f

-- what a call gives of its field
abbrev pub got_tree : Field → Got → Tree
got_tree f got.Text = field_text f
got_tree f got.Bytes = field_bytes f
got_tree f got.Length = len_of f

-- whether a field has elements: bytes or text, in numbers of 1, 2, 4 or 8 bytes
abbrev pub is_indexed : FieldKind → ℕ → Bool
is_indexed Number size = false
is_indexed Pointer size = false
is_indexed Text size = is_size size
is_indexed Bytes size = is_size size

-- the field that is named after `REC` and `->`, which stand at a place
unfoldable pub named_at : Source → ℕ → Option Field
named_at s i = do
  is_mark s (i + 1) (codes "->")
  name ← name_at s (i + 2)
  field_named name s.fields

-- the dynamic field that is named in the brackets of a call, whose name stands at a place
unfoldable pub dynamic_at : Source → ℕ → Option Field
dynamic_at s i = do
  is_mark s (i + 1) (codes "(")
  name ← name_at s (i + 2)
  f ← field_named name s.fields
  is_dynamic f.place
  is_mark s (i + 3) (codes ")")
  Some f
