use Rattle.std.proofs.Common.{◌≡◌, ◌++◌, length}
use Rattle.std.specs.List.{flat_map}
use Rattle.std.specs.Prelude.{map}
use Rattle.fmt_print.specs.Steps.{directives_of, front_of, front_in}
use Rattle.fmt_print.proofs.step.steps_of.Given as goal

abbrev pub invariant-loop-left : goal.invariant-loop-left
invariant-loop-left l = (flat_map directives_of l.steps.items ++ l.left ≡ l.fn.directives) × (map front_of l.steps.items ≡ map (front_in l.fn.text) l.steps.items)

abbrev pub decreases-loop-left : goal.decreases-loop-left
decreases-loop-left l = length l.left
