use Rattle.std.proofs.Common.{rules}
use Rattle.fmt_expr.specs.declared.expr.Expr.{the_lemmas}
use Rattle.fmt_eval.proofs.Rows.{rows_row}
use Rattle.fmt_eval.proofs.text.+put_text.Goals as goal

pub returns-in-Flags-clause-value : goal.returns-in-Flags-clause-value
returns-in-Flags-clause-value t c = search (rules, the_lemmas, rows_row)

pub returns-in-Symbolic-clause-value : goal.returns-in-Symbolic-clause-value
returns-in-Symbolic-clause-value t c = search (rules, the_lemmas, rows_row)
