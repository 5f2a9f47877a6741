use Rattle.std.proofs.Common.{◌≡◌, ◌+◌, ◌*◌, max, drop}
use denote.Param.Weighed.{most}
use Rattle.fmt_expr.proofs.expr.Expr.TheLaws as exprs
use Rattle.fmt_expr.proofs.expr.Operand.TheLaws as operands
use Rattle.fmt_expr.specs.TreeView.{operands_of}
use Rattle.fmt_fold.specs.Constants.{all_constant}
use Rattle.fmt_fold.proofs.constants.+constant.Given as goal

abbrev pub invariant-all_constant-loop-operand : goal.invariant-all_constant-loop-operand
invariant-all_constant-loop-operand l = all_constant (operands_of (drop l.operand-index l.rest)) ≡ all_constant (operands_of l.fn.rest)

abbrev pub decreases-is_constant : goal.decreases-is_constant
decreases-is_constant l = 4 * exprs.the_size l.expr.now

abbrev pub decreases-all_constant : goal.decreases-all_constant
decreases-all_constant l = 4 * most operands.the_size l.rest.now + 1

abbrev pub decreases-is_constant_row : goal.decreases-is_constant_row
decreases-is_constant_row l = 4 * max (exprs.the_size l.first.now) (most operands.the_size l.rest.now) + 2
