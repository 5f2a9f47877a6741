use Rattle.std.proofs.Common.{◌≡◌, length}
use Rattle.std.specs.List.{All}
use Rattle.trace_base.specs.declared.layout.Layout.{Layout}
use Rattle.time_merge.specs.LaneRows.{HasLayout}
use Rattle.split_tests.proofs.LanesInRow.{AreNumbered}
use Rattle.split_tests.proofs.tests.lanes.set_lanes.Given as goal

abbrev pub invariant-loop-i : goal.invariant-loop-i
invariant-loop-i l = record {
  same : length l.lanes ≡ length l.parts;
  layouts : (layout : Layout) → All (HasLayout layout) l.fn.lanes → All (HasLayout layout) l.lanes;
  numbered : AreNumbered l.first l.i l.lanes;
}
