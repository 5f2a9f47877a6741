use Rattle.std.proofs.Common.{rules}
use Rattle.filter_truth.specs.declared.bound_expr.BoundExpr.{the_lemmas}
use Rattle.filter_truth.proofs.BoundRows.{bound_in_row}
use Rattle.filter_truth.proofs.binding.bound_chain.Goals as goal

pub returns : goal.returns
returns c = λ at. search (rules, the_lemmas, bound_in_row)
