use Rattle.std.proofs.Common.{◌≡◌, rules, ap, ◌∙◌}
use Rattle.std.proofs.lemmas.Option.{IfSome_then}
use Rattle.trace_base.specs.Kept.{until_nul}
use Rattle.fmt_expr.specs.declared.expr.Expr.{the_lemmas}
use Rattle.fmt_expr.specs.TreeView.{tree_of}
use Rattle.fmt_eval.specs.Entered.{rows_in}
use Rattle.fmt_eval.specs.Flags.{flags_text}
use Rattle.fmt_eval.specs.Numbers.{pattern}
use Rattle.fmt_eval.specs.Texts.{text_of}
use Rattle.fmt_eval.specs.Values.{given, number_of}
use Rattle.fmt_eval.proofs.Rows.{rows_row}
use Rattle.fmt_print.proofs.conversions.text_at_once.Goals as goal

pub returns-in-Flags : goal.returns-in-Flags
returns-in-Flags c =
    let whole : flags_text c.in-Flags.between (pattern (number_of (given c.args.rec.now) (tree_of c.deref.result.now)).exact) (rows_in (given c.args.rec.now) c.as_slice.result.now) ≡ text_of (given c.args.rec.now) (tree_of c.args.expr.now) = search (rules, the_lemmas, rows_row) in
    IfSome_then c.only_flag.result c.only_flag.ensures (λ text is. ap until_nul (is c.in-Flags.between ∙ whole))
