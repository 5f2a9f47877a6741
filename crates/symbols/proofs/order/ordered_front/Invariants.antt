use Rattle.std.proofs.Common.{◌≤◌}
use Rattle.symbols.proofs.order.ordered_front.Given as goal

abbrev pub invariant-loop-count : goal.invariant-loop-count
invariant-loop-count l = l.count ≤ l.rising

abbrev pub decreases-loop-count : goal.decreases-loop-count
decreases-loop-count l = l.count
