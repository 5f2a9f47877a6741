use Rattle.std.proofs.Common.{◌≢◌}
use Rattle.page_pool.specs.declared.cursor.LaneState.TheVariants.{Malformed}
use Rattle.lane_tests.proofs.tests.cursors.go_on.Given as goal

abbrev pub invariant-loop : goal.invariant-loop
invariant-loop g l = l.lane.cursor.state ≢ Malformed
