use Rattle.std.proofs.Common.{rules}
use Rattle.fmt_expr.specs.declared.expr.Expr.{the_lemmas}
use Rattle.fmt_expr.proofs.Views.{operands_of_row}
use Rattle.fmt_fold.proofs.make.chained.Goals as goal

pub returns : goal.returns
returns c = search (rules, the_lemmas, operands_of_row)
