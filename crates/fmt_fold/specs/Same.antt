-- Trees that are the same over every record.
use Rattle.std.specs.Prelude.{◌≡◌, ℕ, List, [], map}
use Rattle.trace_base.specs.declared.field.Field.{Field}
use Rattle.fmt_expr.specs.Tree.{Tree}
use Rattle.fmt_expr.specs.Kinds.{kind_of}
use Rattle.fmt_expr.specs.TreeView.{tree_of}
use Rattle.fmt_expr.specs.declared.kinds.Kind.{Kind}
use Rattle.c_operators.specs.declared.binary.BinaryOp.{BinaryOp}
use Rattle.fmt_expr.specs.declared.expr.Operand.{Operand}
use Rattle.fmt_expr.specs.declared.expr.Entry.{Entry}
use Rattle.fmt_eval.specs.Numbers.{Number}
use Rattle.fmt_eval.specs.Values.{RecData, number_of}
use Rattle.fmt_eval.specs.Texts.{text_of}
use Rattle.fmt_eval.specs.Bytes.{bytes_of}
use Rattle.fmt_eval.specs.Entered.{rows_in}

-- what a tree is over a record
pub record Meaning : Type 0 where
  pub kind : Kind
  pub number : Number
  pub text : List ℕ
  pub bytes : List ℕ

abbrev pub meaning_of : RecData → Tree → Meaning
meaning_of g t = record { kind = kind_of t; number = number_of g t; text = text_of g t; bytes = bytes_of g t }

pub record IsSame (t u : Tree) : Type 0 where
  pub each : (g : RecData) → meaning_of g t ≡ meaning_of g u

-- a field by all but its name
abbrev pub nameless : Field → Field
nameless f = record f { name = [] }

-- an operator with the number after it
abbrev pub step_of : RecData → Operand → BinaryOp × Number
step_of g o = (o.op, number_of g (tree_of o.value))

-- the same one by one, over every record
pub record SameOperands (os ps : List Operand) : Type 0 where
  pub each : (g : RecData) → map (step_of g) os ≡ map (step_of g) ps

pub record SameEntries (es fs : List Entry) : Type 0 where
  pub each : (g : RecData) → rows_in g es ≡ rows_in g fs

pub record SameTrees (ts us : List Tree) : Type 0 where
  pub each : (g : RecData) → map (meaning_of g) ts ≡ map (meaning_of g) us
