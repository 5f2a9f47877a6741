use Rattle.std.proofs.Common.{rules}
use Rattle.filter_truth.specs.declared.bound_expr.BoundExpr.{the_lemmas}
use Rattle.filter_truth.proofs.BoundRows.{bound_in_row}
use Rattle.filter_truth.proofs.evaluation.+walk.Goals as goal

pub value-returns-in-Chain : goal.value-returns-in-Chain
value-returns-in-Chain t c = search (rules, the_lemmas, bound_in_row)
