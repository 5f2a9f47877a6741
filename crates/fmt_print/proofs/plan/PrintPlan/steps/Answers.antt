use Rattle.std.proofs.Common.{ap, sym, ◌∙◌}
use Rattle.std.specs.List.{flat_map}
use Rattle.std.specs.Prelude.{map}
use Rattle.fmt_print.specs.Steps.{directives_of, front_of, front_in}
use Rattle.fmt_print.proofs.StepLemmas.{steps_within}
use Rattle.fmt_print.proofs.plan.PrintPlan.steps.Goals as goal

pub returns-clause-within : goal.returns-clause-within
returns-clause-within c =
    let plan = c.args.self.now in
    steps_within plan.text c.as_slice.result.now plan.directives.items (ap (flat_map directives_of) c.as_slice.ensures.value ∙ plan.shown)
    (ap (map front_of) c.as_slice.ensures.value ∙ plan.copied ∙ sym (ap (map (front_in plan.text)) c.as_slice.ensures.value)) plan.within
