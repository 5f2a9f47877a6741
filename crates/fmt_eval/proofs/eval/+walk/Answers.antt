use Rattle.std.proofs.Common.{rules}
use Rattle.fmt_expr.specs.declared.expr.Expr.{the_lemmas}
use Rattle.fmt_eval.proofs.Rows.{operands_row}
use Rattle.fmt_eval.proofs.eval.+walk.Goals as goal

pub number-returns-in-Chain : goal.number-returns-in-Chain
number-returns-in-Chain t c = search (rules, the_lemmas, operands_row)
