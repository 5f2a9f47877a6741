use Rattle.std.proofs.Common.{rules}
use Rattle.fmt_expr.specs.declared.expr.Expr.{the_lemmas}
use Rattle.fmt_expr.proofs.Views.{operands_of_row}
use Rattle.fmt_fold.proofs.constants.+constant.Goals as goal

pub is_constant-returns-in-Chain : goal.is_constant-returns-in-Chain
is_constant-returns-in-Chain t c = search (rules, the_lemmas, operands_of_row)
