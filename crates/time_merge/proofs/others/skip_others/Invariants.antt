use Rattle.std.proofs.Common.{◌≤◌}
use Rattle.event_cursor.specs.Standing.{most_left}
use Rattle.time_merge.specs.Skipping.{IsSkipped}
use Rattle.time_merge.proofs.others.skip_others.Given as goal

abbrev pub invariant-loop-lane : goal.invariant-loop-lane
invariant-loop-lane g l = record {
  skipped : IsSkipped (g.O.Others.matters l.others) l.initial.lane l.lane;
  most : most_left l.lane ≤ most_left l.initial.lane;
}

abbrev pub decreases-loop-lane : goal.decreases-loop-lane
decreases-loop-lane g l = most_left l.lane
