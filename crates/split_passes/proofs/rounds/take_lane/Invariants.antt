use Rattle.std.proofs.Common.{List, length}
use Rattle.std.specs.Option.{IfSome}
use Rattle.subpage.specs.ItemData.{ItemData}
use Rattle.event_cursor.specs.Standing.{held_left}
use Rattle.split_passes.specs.Rounds.{TakesFew}
use Rattle.split_passes.specs.Takings.{HasRun}
use Rattle.split_passes.proofs.rounds.take_lane.Given as goal

abbrev pub invariant-loop-run : goal.invariant-loop-run
invariant-loop-run l = record {
  run : IfSome l.run (HasRun l.lane);
  taken : (xs : List ItemData) × TakesFew l.until l.fn.lane l.lane l.fn.tally l.tally xs;
}

abbrev pub decreases-loop-run : goal.decreases-loop-run
decreases-loop-run l = length (held_left l.lane)
