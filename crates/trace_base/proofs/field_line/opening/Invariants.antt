use Rattle.std.proofs.Common.{length, ◌≡◌, ◌≤◌}
use Rattle.trace_base.specs.FieldReading.{opens, greatest_below}
use Rattle.trace_base.proofs.field_line.opening.Given as goal

-- no greater place is one
abbrev pub invariant-loop-at : goal.invariant-loop-at
invariant-loop-at l = (greatest_below (opens l.text) l.at ≡ greatest_below (opens l.text) (length l.text)) × (l.at ≤ length l.text)

abbrev pub decreases-loop-at : goal.decreases-loop-at
decreases-loop-at l = l.at
