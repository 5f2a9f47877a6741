use Rattle.std.proofs.Common.{arith}
use Rattle.time_merge.proofs.Skips.{skipped_more, skipped_none}
use Rattle.time_merge.proofs.others.skip_others.Goals as goal

pub loop-lane-init : goal.loop-lane-init
loop-lane-init g c = record {
  skipped = skipped_none _ c.args.lane.now;
  most = omega arith;
}

pub loop-lane-preserved : goal.loop-lane-preserved
loop-lane-preserved g c = record {
  skipped = skipped_more _ c.args.lane.now c.loop-lane.lane c.step.new.lane c.loop-lane.invariant.skipped (c.holds_other.ensures.other c.loop-lane-test.true) c.step.ensures.used;
  most = omega (arith, c.loop-lane.invariant.most, c.step.ensures.most);
}
