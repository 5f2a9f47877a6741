use Rattle.std.specs.List.{All}
use Rattle.trace_base.specs.declared.layout.Layout.{Layout}
use Rattle.time_merge.specs.LaneRows.{HasLayout}
use Rattle.round_tests.proofs.tests.workers.open_lanes.Given as goal

abbrev pub invariant-loop-i : goal.invariant-loop-i
invariant-loop-i l = (layout : Layout) → All (HasLayout layout) l.fn.lanes → All (HasLayout layout) l.lanes
