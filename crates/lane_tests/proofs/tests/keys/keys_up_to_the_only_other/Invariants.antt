use Rattle.std.proofs.Common.{◌≡◌, length}
use Rattle.lane_tests.proofs.tests.keys.keys_up_to_the_only_other.Given as goal

abbrev pub invariant-loop-slot : goal.invariant-loop-slot
invariant-loop-slot g l = length l.tree ≡ 5
