-- The typed tree of a print fmt, without where it lies in memory.
use Rattle.std.specs.Prelude.{ℕ, List}
use Rattle.fmt_literal.specs.declared.ckind.CKind.{CKind}
use Rattle.fmt_literal.specs.declared.cast_to.CastTo.{CastTo}
use Rattle.c_operators.specs.declared.binary.BinaryOp.{BinaryOp}
use Rattle.fmt_expr.specs.declared.expr.PrefixOp.{PrefixOp}
use Rattle.trace_base.specs.declared.field.Field.{Field}

mutual
  pub data Tree : Type 0 where
    number : ℕ → CKind → Tree
    literal : List ℕ → Tree
    field_number : Field → Tree
    field_text : Field → Tree
    field_bytes : Field → Tree
    element : Field → Tree → Tree
    len_of : Field → Tree
    prefix : PrefixOp → Tree → Tree
    cast : CastTo → Tree → Tree
    chain : Tree → Operands → Tree
    choice : Tree → Tree → Tree → Tree
    flags : Tree → List ℕ → Entries → Tree
    symbolic : Tree → Entries → Tree
    hex : Tree → Tree → Tree
    array : Tree → Tree → Tree → Tree

  -- the operators of one level, each with what follows it
  pub data Operands : Type 0 where
    no_operands : Operands
    operand : BinaryOp → Tree → Operands → Operands

  -- values with their texts
  pub data Entries : Type 0 where
    no_entries : Entries
    entry : Tree → List ℕ → Entries → Entries
