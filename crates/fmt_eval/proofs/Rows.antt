-- A row of operands or entries, read as a list.
use Rattle.std.proofs.Common.{◌≡◌, List, ◌∷◌, refl, ap}
use Rattle.fmt_expr.specs.declared.expr.Expr.{Row_of-Operand, end_of-Operand, more_of-Operand, items-the_row-Operand, Row_of-Entry, end_of-Entry, more_of-Entry, items-the_row-Entry}
use Rattle.fmt_expr.specs.Tree.{operand}
use Rattle.fmt_expr.specs.TreeView.{tree_of, operands_in, entries_in, operands_of}
use Rattle.fmt_eval.specs.Values.{RecData, number_of}
use Rattle.fmt_eval.specs.Numbers.{pattern}
use Rattle.fmt_eval.specs.Flags.{Row}
use Rattle.fmt_eval.specs.Texts.{rows_of}
use Rattle.fmt_eval.specs.Entered.{rows_in}

pub operands_row : {n : _} (k : Row_of-Operand n) → operands_in k ≡ operands_of (items-the_row-Operand n k)
operands_row end_of-Operand = refl
operands_row (more_of-Operand op e rest) = ap (operand op (tree_of e)) (operands_row rest)

pub rows_row : {n : _} (g : RecData) (k : Row_of-Entry n) → rows_of g (entries_in k) ≡ rows_in g (items-the_row-Entry n k)
rows_row g end_of-Entry = refl
rows_row g (more_of-Entry e text rest) = ap (λ (rows : List Row). (pattern (number_of g (tree_of e)).exact, text) ∷ rows) (rows_row g rest)
