use Rattle.std.proofs.Common.{◌≤◌, ◌-◌, length}
use Rattle.time_merge.proofs.MakingReady.{ReadySoFar}
use Rattle.time_merge.proofs.ready.make_moved_ready.Given as goal

abbrev pub invariant-loop-i : goal.invariant-loop-i
invariant-loop-i g l = record {
  within : l.from ≤ length l.moved;
  so_far : ReadySoFar g.F.File l.fn.file l.file l.fn.lanes l.lanes l.from;
}

abbrev pub decreases-loop-i : goal.decreases-loop-i
decreases-loop-i g l = length l.moved - l.from
