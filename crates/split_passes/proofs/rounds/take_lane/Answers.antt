use Rattle.std.proofs.Common.{[], ◌++◌, ◌≡◌, ◌+◌, length, arith}
use Rattle.split_passes.proofs.LaneRounds.{few_none, few_twice, lane_taken, used_at}
use Rattle.split_passes.proofs.rounds.take_lane.Goals as goal

pub loop-run-init : goal.loop-run-init
loop-run-init c = record {
  run = c.requires.found;
  taken = ([], few_none c.args.until c.args.lane.now c.args.tally.now);
}

pub loop-run-preserved : goal.loop-run-preserved
loop-run-preserved c =
    let before = c.loop-run.invariant.taken in
    let more = c.take_some.ensures.taken in
    record {
      run = tt;
      taken = (before.0 ++ more.0, few_twice c.args.until c.args.lane.now c.loop-run.lane c.take_some.new.lane c.args.tally.now c.loop-run.tally c.take_some.new.tally before.0 more.0 before.1 more.1.1);
    }

pub returns : goal.returns
returns c = record {
  taken = λ most reach.
      let a = c.args.lane.now in
      let taken = c.loop-run.invariant.taken in
      let at : c.loop-run.lane.cursor.at ≡ a.cursor.at + length taken.0 = used_at taken.0 a c.loop-run.lane taken.1.used in (
        taken.0,
        (
          lane_taken c.args.until most a c.loop-run.lane c.args.tally.now c.loop-run.tally taken.0 taken.1 c.loop-run-test.ensures reach,
          omega (arith, at, c.from.ensures),
        ),
      );
}
