use Rattle.std.proofs.Common.{rules}
use Rattle.fmt_expr.specs.declared.expr.Expr.{the_lemmas}
use Rattle.fmt_expr.proofs.Views.{entries_of_row}
use Rattle.fmt_fold.proofs.make.flagged.Goals as goal

pub returns : goal.returns
returns c = search (rules, the_lemmas, entries_of_row)
