use Rattle.std.proofs.Common.{rules}
use Rattle.fmt_expr.specs.declared.expr.Expr.{the_lemmas}
use Rattle.fmt_expr.proofs.Views.{operands_of_row}
use Rattle.fmt_fold.proofs.constants.is_fixed.Goals as goal

pub returns-in-Chain : goal.returns-in-Chain
returns-in-Chain c = search (rules, the_lemmas, operands_of_row)
