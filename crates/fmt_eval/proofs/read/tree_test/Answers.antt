use Rattle.std.proofs.Common.{rules}
use Rattle.fmt_expr.specs.declared.expr.Expr.{the_lemmas}
use Rattle.fmt_eval.proofs.Rows.{operands_row}
use Rattle.fmt_eval.proofs.read.tree_test.Goals as goal

pub returns-in-Chain : goal.returns-in-Chain
returns-in-Chain c = search (rules, the_lemmas, operands_row)
