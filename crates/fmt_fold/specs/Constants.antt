-- Numbers that read no record.
use Rattle.std.specs.Prelude.{Bool, true, false, ◌&&◌}
use Rattle.fmt_expr.specs.Tree.{Tree, number, prefix, cast, chain, choice, Operands, no_operands, operand}

-- a number that is written out
abbrev pub is_written : Tree → Bool
is_written (number bits kind) = true
is_written t = false

abbrev pub all_written : Operands → Bool
all_written no_operands = true
all_written (operand op t rest) = is_written t && all_written rest

-- a number that is made of numbers that are written out
abbrev pub is_fixed : Tree → Bool
is_fixed (number bits kind) = true
is_fixed (prefix op t) = is_written t
is_fixed (cast to t) = is_written t
is_fixed (chain t rest) = is_written t && all_written rest
is_fixed (choice test one other) = (is_written test && is_written one) && is_written other
is_fixed t = false

-- A number that reads no record: it is made of numbers alone. What holds a text is none, though no field may stand in it: a literal, a
-- cast or a choice of literals, flags and symbols of constants, and an operator on any of these. Such parts stay as they are.
abbrev mutual
  pub is_constant : Tree → Bool
  is_constant (number bits kind) = true
  is_constant (prefix op t) = is_constant t
  is_constant (cast to t) = is_constant t
  is_constant (chain t rest) = is_constant t && all_constant rest
  is_constant (choice test one other) = (is_constant test && is_constant one) && is_constant other
  is_constant t = false

  pub all_constant : Operands → Bool
  all_constant no_operands = true
  all_constant (operand op t rest) = is_constant t && all_constant rest
