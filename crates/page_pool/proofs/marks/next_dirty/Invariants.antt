use Rattle.std.proofs.Common.{length, ◌-◌}
use Rattle.page_pool.proofs.Passing.{PassedOver}
use Rattle.page_pool.proofs.marks.next_dirty.Given as goal

abbrev pub invariant-loop-at : goal.invariant-loop-at
invariant-loop-at l = PassedOver l.moved l.from l.at

abbrev pub decreases-loop-at : goal.decreases-loop-at
decreases-loop-at l = length l.moved - l.at

abbrev pub invariant-loop-at-2 : goal.invariant-loop-at-2
invariant-loop-at-2 l = PassedOver l.moved l.from l.at

abbrev pub decreases-loop-at-2 : goal.decreases-loop-at-2
decreases-loop-at-2 l = length l.moved - l.at
