use Rattle.std.proofs.Common.{◌≡◌, [], ℕ, ◌<◌, List, length, get_or}
use Rattle.subpage.specs.Arrangement.{Keyed}
use Rattle.page_pool.specs.declared.lane.Lane.{Lane}
use Rattle.split_pieces.specs.Cuts.{items_of_cpu}
use Rattle.split_passes.specs.ListSeen.{ListSeen}
use Rattle.split_tool.specs.Counted.{AreCounted, IsSized}
use Rattle.split_tool.proofs.table.fill_table.Given as goal

abbrev pub invariant-loop-i : goal.invariant-loop-i
invariant-loop-i l = record {
  long : length l.table ≡ length l.fn.table;
  zeros : (xs : List Keyed) (cpu : ℕ) → AreCounted l.layout l.lists xs → cpu < length l.fn.table → items_of_cpu cpu xs ≡ [] → IsSized l.layout xs l.table cpu;
  puts : (xs : List Keyed) (k : ℕ) (e : ListSeen) (j : ℕ) (d : Lane) → AreCounted l.layout l.lists xs → k < l.i → j < length (get_or l.lists k e).all
      → IsSized l.layout xs l.table (get_or (get_or l.lists k e).all j d).cpu;
}
