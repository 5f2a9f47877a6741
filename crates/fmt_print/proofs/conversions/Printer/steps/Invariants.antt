use Rattle.std.proofs.Common.{◌≡◌, drop}
use Rattle.std.specs.List.{flat_map}
use Rattle.fmt_forms.specs.Gathered.{gathered, joined}
use Rattle.fmt_print.specs.ArgumentView.{trees}
use Rattle.fmt_print.specs.PlanView.{plan_view}
use Rattle.fmt_print.specs.Printed.{printed}
use Rattle.fmt_print.specs.Sources.{source}
use Rattle.fmt_print.specs.Steps.{directives_of}
use Rattle.fmt_print.proofs.conversions.Printer.steps.Given as goal

abbrev pub invariant-loop-step : goal.invariant-loop-step
invariant-loop-step l =
    joined (gathered l.into) (printed (source l.fn.self) (flat_map directives_of (drop l.step-index l.steps)) (trees l.left))
    ≡ joined (gathered l.fn.into) (printed (source l.fn.self) (plan_view l.fn.self.plan.now).directives (trees l.fn.args))
