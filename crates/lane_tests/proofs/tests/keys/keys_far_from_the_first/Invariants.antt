use Rattle.std.proofs.Common.{◌≡◌, length}
use Rattle.lane_tests.proofs.tests.keys.keys_far_from_the_first.Given as goal

abbrev pub invariant-loop-slot : goal.invariant-loop-slot
invariant-loop-slot g l = length l.tree ≡ 5
