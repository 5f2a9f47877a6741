use Rattle.std.proofs.Common.{◌<◌, ◌^◌, ◌-◌, ap, ◌∙◌, rules}
use Rattle.trace_base.specs.TailView.{kept, held}
use Rattle.fmt_print.proofs.FlowLemmas.{flow_left, flow_right}
use Rattle.fmt_print.proofs.flow.put_measured.Goals as goal

pub returns-then-form-clause-value : goal.returns-then-form-clause-value
returns-then-form-clause-value c =
    let small : c.args.form.now.width < 2 ^ 32 = search rules in
    flow_left (held c.args.into.now) (kept c.put_flow.new.into) (kept c.put_repeated.new.into) _ c.args.form.now.width c.saturating_sub-pad.result _ c.if-form.true small
    (c.saturating_sub-pad.ensures ∙ ap (λ n. c.args.form.now.width - n) c.flow_len-len.ensures) c.put_flow.ensures.value c.put_repeated.ensures.value

pub returns-else-form-clause-value : goal.returns-else-form-clause-value
returns-else-form-clause-value c =
    let small : c.args.form.now.width < 2 ^ 32 = search rules in
    flow_right (kept c.args.into.now) (kept c.put_repeated-else-form.new.into) (held c.put_flow-else-form.new.into) _ c.args.form.now.width c.saturating_sub-pad.result _ c.if-form.false small
    (c.saturating_sub-pad.ensures ∙ ap (λ n. c.args.form.now.width - n) c.flow_len-len.ensures) c.put_repeated-else-form.ensures.value c.put_flow-else-form.ensures.value
