use Rattle.std.proofs.Common.{ap, ◌∙◌}
use Rattle.trace_base.specs.Kept.{put_held}
use Rattle.trace_base.specs.TailView.{held}
use Rattle.fmt_eval.specs.Values.{given}
use Rattle.fmt_print.specs.ArgumentView.{trees}
use Rattle.fmt_print.specs.PlanView.{plan_view}
use Rattle.fmt_print.specs.Printed.{source_of, print_text}
use Rattle.fmt_forms.proofs.Gathering.{held_all, lent_all}
use Rattle.fmt_print.proofs.SameLemmas.{printed_same}
use Rattle.fmt_print.proofs.printing.print.Goals as goal

pub returns-clause-same_slice : goal.returns-clause-same_slice
returns-clause-same_slice c = lent_all c.args.into.now c.steps.new.into _ c.steps.ensures

pub returns-clause-value : goal.returns-clause-value
unfolding print_text
returns-clause-value c =
    let plan = plan_view c.args.plan.now in
    let source = source_of plan (given c.args.rec.now) c.args.symbols.now in
    held_all c.args.into.now c.steps.new.into _ c.steps.ensures
    ∙ ap (put_held (held c.args.into.now)) (printed_same source plan.directives (trees c.folded.result.now) plan.args (c.folded.ensures.each (given c.args.rec.now)))
