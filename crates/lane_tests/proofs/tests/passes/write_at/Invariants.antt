use Rattle.std.proofs.Common.{◌≡◌, ◌≤◌}
use Rattle.lane_tests.proofs.tests.passes.write_at.Given as goal

abbrev pub invariant-loop-time : goal.invariant-loop-time
invariant-loop-time l = record {
  layout : l.packer.layout ≡ l.layout;
  few : l.count.pages ≤ l.time-index;
}
