use Rattle.std.proofs.Common.{◌<◌, length}
use Rattle.split_passes.proofs.horizon.furthest.Given as goal

abbrev pub invariant-loop-i : goal.invariant-loop-i
invariant-loop-i l = record { inside : l.first < length l.lanes }
