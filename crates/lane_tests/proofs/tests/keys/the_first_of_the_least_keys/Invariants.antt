use Rattle.std.proofs.Common.{◌≡◌, length}
use Rattle.lane_tests.proofs.tests.keys.the_first_of_the_least_keys.Given as goal

abbrev pub invariant-loop-slot : goal.invariant-loop-slot
invariant-loop-slot g l = length l.tree ≡ 5
