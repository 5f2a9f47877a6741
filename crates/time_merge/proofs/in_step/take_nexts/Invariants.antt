use Rattle.std.proofs.Common.{◌≡◌, length, map, take}
use Rattle.time_merge.specs.LaneRows.{next_of}
use Rattle.time_merge.proofs.in_step.take_nexts.Given as goal

abbrev pub invariant-loop-i : goal.invariant-loop-i
invariant-loop-i l = record {
  slots : length l.nexts ≡ length l.lanes;
  nexts : take l.i l.nexts ≡ map next_of (take l.i l.lanes);
}
