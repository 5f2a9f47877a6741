use Rattle.std.proofs.Common.{◌≡◌, ◌-◌, ◌≤◌, length, take}
use Rattle.cpu_workers.specs.Shares.{busy_lanes}
use Rattle.cpu_workers.proofs.shares.busy_lanes.Given as goal

abbrev pub invariant-loop-i : goal.invariant-loop-i
invariant-loop-i l = record {
  busy : l.busy ≡ busy_lanes (take l.from l.lanes) (take l.from l.moved);
  few : l.busy ≤ l.from;
  within : l.from ≤ length l.moved;
}

abbrev pub decreases-loop-i : goal.decreases-loop-i
decreases-loop-i l = length l.moved - l.from
