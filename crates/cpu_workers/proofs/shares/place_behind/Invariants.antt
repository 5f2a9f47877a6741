use Rattle.std.proofs.Common.{◌≡◌, ◌+◌, ◌-◌, ◌≤◌, length, take}
use Rattle.cpu_workers.specs.Shares.{busy_lanes}
use Rattle.cpu_workers.proofs.shares.place_behind.Given as goal

abbrev pub invariant-loop-left : goal.invariant-loop-left
invariant-loop-left l = record {
  count : busy_lanes (take l.from l.lanes) (take l.from l.moved) + l.left ≡ l.fn.count;
  within : l.from ≤ length l.moved;
}

abbrev pub decreases-loop-left : goal.decreases-loop-left
decreases-loop-left l = length l.moved - l.from
