use Rattle.split_passes.proofs.LaneRounds.{comes_by, comes_not}
use Rattle.split_passes.proofs.rounds.comes_by.Goals as goal

pub returns-in-None : goal.returns-in-None
returns-in-None c = comes_not c.args.until c.args.lane.now c.in-None.ensures

pub returns-in-Some : goal.returns-in-Some
returns-in-Some c = comes_by c.args.until c.args.lane.now c.in-Some.key c.in-Some.ensures
