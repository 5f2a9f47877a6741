use Rattle.std.proofs.Common.{◌≡◌, sum_by}
use Rattle.std.specs.Option.{IfSome}
use Rattle.std.specs.List.{All}
use Rattle.trace_outside.specs.Keeping.{KeepsFile}
use Rattle.event_cursor.specs.Standing.{most_left}
use Rattle.time_merge.specs.LaneRows.{HasLayout, parts_of}
use Rattle.lane_tests.proofs.GoneThrough.{Gone}
use Rattle.lane_tests.proofs.tests.merging.all_keys.Given as goal

abbrev pub invariant-loop-i : goal.invariant-loop-i
invariant-loop-i g l = record {
  layouts : All (HasLayout l.layout) l.lanes;
  parts : parts_of l.lanes ≡ parts_of l.fn.lanes;
  gone : IfSome (g.F.File.bytes l.fn.file) (λ file. Gone l.layout file l.fn.lanes l.lanes l.keys.items);
  keeps : KeepsFile g.F.File l.fn.file l.file;
}

abbrev pub decreases-loop-i : goal.decreases-loop-i
decreases-loop-i g l = sum_by most_left l.lanes
