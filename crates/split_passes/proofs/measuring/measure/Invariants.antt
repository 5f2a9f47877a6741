use Rattle.std.proofs.Common.{◌≡◌, ℕ, ◌-◌, ◌<◌, ◌≤◌, [], length, get_or, sum_by}
use Rattle.std.specs.Option.{IfSome}
use Rattle.std.specs.List.{All}
use Rattle.trace_outside.specs.Causes.{raised}
use Rattle.trace_outside.specs.Keeping.{KeepsFile}
use Rattle.page_pool.specs.declared.lane.Lane.{Lane}
use Rattle.event_cursor.specs.Standing.{Stands, most_left}
use Rattle.time_merge.specs.Advancing.{Advances}
use Rattle.time_merge.specs.LaneRows.{parts_of}
use Rattle.time_merge.specs.Nexts.{IsInStep}
use Rattle.time_merge.specs.Reads.{all_unread}
use Rattle.split_passes.specs.Measures.{SkipsOver, Tallied}
use Rattle.split_passes.proofs.Running.{Runs}
use Rattle.split_passes.proofs.measuring.measure.Given as goal

abbrev pub invariant-loop-i : goal.invariant-loop-i
invariant-loop-i g l = record {
  parts : parts_of l.lanes ≡ parts_of l.fn.lanes;
  long : length l.tallies ≡ length l.lanes;
  in_step : IsInStep l.lanes l.nexts l.used;
  slots : length l.nexts ≡ length l.fn.nexts;
  runs : IfSome (g.F.File.bytes l.fn.file) (λ file. All (Stands file) l.fn.lanes → Tallied l.fn.lanes [] l.fn.tallies
      → Runs file l.stop l.fn.gauge l.gauge l.fn.lanes l.lanes l.tallies);
  advance : (j : ℕ) (d : Lane) → j < length l.fn.lanes → Advances (get_or l.fn.lanes j d) (get_or l.lanes j d);
  over : SkipsOver l.fn.lanes l.fn.tallies l.tallies;
  reads : g.F.File.reads l.file
      ≤ raised (g.F.File.reads l.fn.file)
      (all_unread (g.F.File.size l.fn.file) l.fn.lanes - all_unread (g.F.File.size l.fn.file) l.lanes);
  unread : all_unread (g.F.File.size l.fn.file) l.lanes ≤ all_unread (g.F.File.size l.fn.file) l.fn.lanes;
  keeps : KeepsFile g.F.File l.fn.file l.file;
  faults : g.F.File.faults l.file ≡ g.F.File.faults l.fn.file;
}

abbrev pub decreases-loop-i : goal.decreases-loop-i
decreases-loop-i g l = sum_by most_left l.lanes
