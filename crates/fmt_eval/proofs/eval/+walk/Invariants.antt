use Rattle.std.proofs.Common.{◌≡◌, drop}
use Rattle.fmt_eval.specs.NumView.{num_view}
use Rattle.fmt_expr.specs.TreeView.{operands_of}
use Rattle.fmt_eval.specs.Values.{given, folded}
use Rattle.fmt_eval.proofs.eval.+walk.Given as goal

abbrev pub invariant-folded-loop-operand : goal.invariant-folded-loop-operand
invariant-folded-loop-operand l =
    folded (given l.rec) (num_view l.total) (operands_of (drop l.operand-index l.fn.rest)) ≡ folded (given l.fn.rec) (num_view l.fn.first) (operands_of l.fn.rest)
