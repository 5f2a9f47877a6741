use Rattle.std.proofs.Common.{arith}
use Rattle.round_tests.proofs.FilledLanes.{two_rise, two_all}
use Rattle.round_tests.proofs.tests.rounds.fill.Goals as goal

pub returns : goal.returns
returns c = record {
  cpus = two_rise c.args.lanes.now c.fill_lane.new.lane c.fill_lane-2.new.lane c.requires (omega (arith, c.fill_lane.ensures.cpu, c.fill_lane-2.ensures.cpu));
  keys = two_all c.args.lanes.now c.fill_lane.new.lane c.fill_lane-2.new.lane c.requires c.fill_lane.ensures.rises c.fill_lane-2.ensures.rises;
}
