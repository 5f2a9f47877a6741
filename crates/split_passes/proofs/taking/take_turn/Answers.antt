use Rattle.split_passes.specs.Choices.{Counting}
use Rattle.split_passes.proofs.TurnLaws.{turn_none, turn_taken}
use Rattle.split_passes.proofs.taking.take_turn.Goals as goal

pub returns-in_default : goal.returns-in_default
returns-in_default c = record {
  taken = λ d. turn_none c.args.stop (record { gauge = c.args.gauge.now; tally = c.args.tally.now }) c.args.lanes.now c.args.i d;
}

pub returns-in-Some : goal.returns-in-Some
returns-in-Some c = record {
  taken = λ d.
      let before : Counting = record { gauge = c.args.gauge.now; tally = c.args.tally.now } in
      let now : Counting = record { gauge = c.take_run.new.gauge; tally = c.take_run.new.tally } in
      turn_taken c.args.stop before now c.args.lanes.now c.args.i c.in-Some.turn c.index-lanes-i.result d c.take_run.new.lane
      c.requires.in_step.inside c.in-Some.ensures c.take_run.ensures.lane c.take_run.ensures.taken;
}
