use Rattle.std.proofs.Common.{◌≡◌, ◌+◌, ap, ◌∙◌, min, arith}
use Rattle.trace_base.specs.Kept.{most, text_end}
use Rattle.trace_base.specs.TailView.{kept, held}
use Rattle.fmt_expr.specs.TreeView.{tree_of}
use Rattle.fmt_eval.specs.Values.{given}
use Rattle.fmt_eval.specs.Texts.{text_of}
use Rattle.fmt_print.specs.Strings.{limit_of}
use Rattle.fmt_print.proofs.CutLemmas.{cut_within, put_cut_is}
use Rattle.fmt_print.proofs.FlowLemmas.{shown_held}
use Rattle.fmt_print.proofs.flow.put_shown.Goals as goal

pub cut-requires : goal.cut-requires
cut-requires c =
    let end : c.min-end.result ≡ min (text_end (kept c.put_text.new.into)) (min (c.total-start.result + c.limit_of.result) most)
    = c.min-end.ensures ∙ ap (λ n. min n c.saturating_add.result) c.text_end.ensures ∙ ap (min (text_end (kept c.put_text.new.into))) c.saturating_add.ensures in
    cut_within (kept c.args.into.now) (kept c.watch.new.self) (kept c.put_text.new.into) (text_of (given c.args.rec.now) (tree_of c.args.expr.now)) c.limit_of.result c.total-start.result _
    c.watch.ensures.value c.put_text.ensures.value end

pub returns-clause-value : goal.returns-clause-value
returns-clause-value c =
    let text = text_of (given c.args.rec.now) (tree_of c.args.expr.now) in
    let end : c.min-end.result ≡ min (text_end (kept c.put_text.new.into)) (min (c.total-start.result + limit_of c.args.precision) most)
    = c.min-end.ensures ∙ ap (λ n. min n c.saturating_add.result) c.text_end.ensures
    ∙ ap (min (text_end (kept c.put_text.new.into))) (c.saturating_add.ensures ∙ ap (λ n. min (c.total-start.result + n) most) c.limit_of.ensures) in
    put_cut_is c.args.into.now text (limit_of c.args.precision) c.total-start.result c.min-end.result (kept c.watch.new.self) (kept c.put_text.new.into) (kept c.cut.new.self)
    c.total-start.ensures.room c.total-start.ensures.value c.watch.ensures.value c.put_text.ensures.value end c.cut.ensures.value
    ∙ shown_held (held c.args.into.now) c.args.precision text (omega (arith, c.total-start.ensures.room))
