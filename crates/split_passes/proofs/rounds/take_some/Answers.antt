use Rattle.split_pieces.specs.declared.gauge.Gauge.TheVariants as gauges
use Rattle.split_passes.specs.Choices.{Counting}
use Rattle.split_passes.proofs.LaneRounds.{some_taken}
use Rattle.split_passes.proofs.rounds.take_some.Goals as goal

pub returns-then-comes_by : goal.returns-then-comes_by
returns-then-comes_by c = record {
  taken =
      let before : Counting = record { gauge = gauges.All; tally = c.args.tally.now } in
      let mid : Counting = record { gauge = c.take_run.new.gauge; tally = c.take_run.new.tally } in
      some_taken c.args.until before mid c.args.lane.now c.take_run.new.lane c.take_head.new.lane c.take_head.new.tally
      c.requires.comes c.take_run.ensures.taken c.if-comes_by.ensures c.take_head.ensures.taken;
}
