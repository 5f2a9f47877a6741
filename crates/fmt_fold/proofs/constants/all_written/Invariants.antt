use Rattle.std.proofs.Common.{◌≡◌, drop}
use Rattle.fmt_expr.specs.TreeView.{operands_of}
use Rattle.fmt_fold.specs.Constants.{all_written}
use Rattle.fmt_fold.proofs.constants.all_written.Given as goal

abbrev pub invariant-loop-operand : goal.invariant-loop-operand
invariant-loop-operand l = all_written (operands_of (drop l.operand-index l.rest)) ≡ all_written (operands_of l.fn.rest)
