use Rattle.std.proofs.Common.{◌≢◌}
use Rattle.page_pool.specs.declared.cursor.LaneState.TheVariants.{Malformed}
use Rattle.lane_tests.proofs.tests.cursors.tells.Given as goal

abbrev pub invariant-loop-letter : goal.invariant-loop-letter
invariant-loop-letter g l = l.lane.cursor.state ≢ Malformed
