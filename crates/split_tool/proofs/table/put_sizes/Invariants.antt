use Rattle.std.proofs.Common.{◌≡◌, ℕ, ◌<◌, List, length, get_or}
use Rattle.subpage.specs.Arrangement.{Keyed}
use Rattle.page_pool.specs.declared.lane.Lane.{Lane}
use Rattle.split_tool.specs.Counted.{IsSized, LanesCounted}
use Rattle.split_tool.proofs.table.put_sizes.Given as goal

abbrev pub invariant-loop-i : goal.invariant-loop-i
invariant-loop-i l = record {
  long : length l.table ≡ length l.fn.table;
  keeps : (xs : List Keyed) (cpu : ℕ) → LanesCounted l.layout l.lanes l.tallies xs → IsSized l.layout xs l.fn.table cpu → IsSized l.layout xs l.table cpu;
  puts : (xs : List Keyed) (j : ℕ) (d : Lane) → LanesCounted l.layout l.lanes l.tallies xs → j < l.i → IsSized l.layout xs l.table (get_or l.lanes j d).cpu;
}
