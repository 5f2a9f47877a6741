-- The operators at a place.
use Rattle.std.specs.Prelude.{ℕ, Option, Some, None, option_and_then, if◌then◌else◌, ◌==◌}
use Rattle.c_operators.specs.Operators.{op_of, level_of}
use Rattle.c_operators.specs.declared.binary.BinaryOp.{BinaryOp}
use Rattle.fmt_expr.specs.Source.{Source, mark_at}

-- the operator that is the token at a place, if it is of the level
abbrev pub if_level : ℕ → BinaryOp → Option BinaryOp
if_level level op = if level_of op == level then Some op else None

-- the operator that is the token at a place
abbrev pub operator_at : Source → ℕ → Option BinaryOp
operator_at s i = option_and_then op_of (mark_at s i)

unfoldable pub op_at : Source → ℕ → ℕ → Option BinaryOp
op_at s level i = option_and_then (if_level level) (operator_at s i)
