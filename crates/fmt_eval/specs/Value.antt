-- The value of a tree over a record: a number, a text or bytes, by the tree's kind.
use Rattle.std.specs.Prelude.{ℕ, List}
use Rattle.fmt_expr.specs.Tree.{Tree}
use Rattle.fmt_expr.specs.Kinds.{kind_of}
use Rattle.fmt_expr.specs.declared.kinds.Kind.{Kind}
use Rattle.fmt_expr.specs.declared.kinds.Kind.TheVariants as kinds
use Rattle.fmt_eval.specs.Numbers.{Number}
use Rattle.fmt_eval.specs.Values.{RecData, number_of}
use Rattle.fmt_eval.specs.Bytes.{bytes_of}
use Rattle.fmt_eval.specs.Texts.{text_of}

pub data Value : Type 0 where
  a_number : Number → Value
  a_text : List ℕ → Value
  some_bytes : List ℕ → Value

abbrev pub value_by : Kind → RecData → Tree → Value
value_by kinds.Number g t = a_number (number_of g t)
value_by kinds.Text g t = a_text (text_of g t)
value_by kinds.Bytes g t = some_bytes (bytes_of g t)

abbrev pub value_of : RecData → Tree → Value
value_of g t = value_by (kind_of t) g t
