use Rattle.std.proofs.Common.{◌≡◌, ◌-◌, ◌≤◌, List, sum_by}
use Rattle.std.specs.Option.{IfSome}
use Rattle.std.specs.List.{All}
use Rattle.trace_outside.specs.Causes.{raised}
use Rattle.trace_outside.specs.Keeping.{KeepsFile}
use Rattle.subpage.specs.Arrangement.{Keyed}
use Rattle.event_cursor.specs.Standing.{most_left}
use Rattle.time_merge.specs.LaneRows.{HasLayout, parts_of}
use Rattle.time_merge.specs.Reads.{all_unread}
use Rattle.item_pass.proofs.PassSteps.{Passed}
use Rattle.item_pass.proofs.passing.pass_lanes.Given as goal

abbrev pub invariant-loop-lanes : goal.invariant-loop-lanes
invariant-loop-lanes g l = record {
  layouts : All (HasLayout l.fn.lanes.layout) l.lanes.all;
  parts : parts_of l.lanes.all ≡ parts_of l.fn.lanes.all;
  known : (xs : List Keyed) × g.G.Gatherer.holds l.gatherer xs l.gathered;
  passed : IfSome (g.F.File.bytes l.fn.file) (λ file.
      Passed (g.G.Others.matters l.gatherer) (λ xs. g.G.Gatherer.holds l.gatherer xs l.gathered) file l.fn.lanes.all l.lanes.all);
  reads : g.F.File.reads l.file
      ≤ raised (g.F.File.reads l.fn.file)
      (all_unread (g.F.File.size l.fn.file) l.fn.lanes.all - all_unread (g.F.File.size l.fn.file) l.lanes.all);
  unread : all_unread (g.F.File.size l.fn.file) l.lanes.all ≤ all_unread (g.F.File.size l.fn.file) l.fn.lanes.all;
  keeps : KeepsFile g.F.File l.fn.file l.file;
  faults : g.F.File.faults l.file ≡ g.F.File.faults l.fn.file;
}

abbrev pub decreases-loop-lanes : goal.decreases-loop-lanes
decreases-loop-lanes g l = sum_by most_left l.lanes.all
