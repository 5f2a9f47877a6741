use Rattle.std.proofs.Common.{◌≡◌, ◌-◌, ◌≤◌}
use Rattle.std.specs.Option.{IfSome}
use Rattle.trace_outside.specs.Causes.{raised}
use Rattle.trace_outside.specs.Keeping.{KeepsFile}
use Rattle.page_pool.specs.declared.cursor.LaneState.TheVariants.{Fresh}
use Rattle.page_pool.specs.Keeping.{KeepsLane, loading}
use Rattle.event_cursor.specs.Standing.{most_left}
use Rattle.event_cursor.specs.Loading.{KeepsLeft}
use Rattle.event_cursor.specs.Unread.{unread}
use Rattle.event_cursor.proofs.loading.load.Given as goal

abbrev pub invariant-loop-lane : goal.invariant-loop-lane
invariant-loop-lane g l = record {
  fresh : l.lane.cursor.state ≡ Fresh;
  place : KeepsLane loading l.fn.lane l.lane;
  most : most_left l.lane ≤ most_left l.fn.lane;
  reads : g.F.File.reads l.file
      ≤ raised (g.F.File.reads l.fn.file)
      (unread (g.F.File.size l.fn.file) l.fn.lane - unread (g.F.File.size l.fn.file) l.lane);
  unread : unread (g.F.File.size l.fn.file) l.lane ≤ unread (g.F.File.size l.fn.file) l.fn.lane;
  left : IfSome (g.F.File.bytes l.fn.file) (λ bytes. KeepsLeft bytes l.fn.lane l.lane);
  keeps : KeepsFile g.F.File l.fn.file l.file;
  faults : g.F.File.faults l.file ≡ g.F.File.faults l.fn.file;
}

abbrev pub decreases-loop-lane : goal.decreases-loop-lane
decreases-loop-lane g l = l.count - l.lane.cursor.next
