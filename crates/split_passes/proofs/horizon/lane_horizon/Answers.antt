use Rattle.std.proofs.Common.{arith}
use Rattle.split_passes.specs.Rounds.{ReachesPast}
use Rattle.split_passes.specs.Takings.{HasRun}
use Rattle.split_passes.proofs.HorizonLaws.{below_key, below_run, reaches_cut, reaches_ended, reaches_found}
use Rattle.split_passes.proofs.horizon.lane_horizon.Goals as goal

pub returns-in-Held-clause-reaches : goal.returns-in-Held-clause-reaches
returns-in-Held-clause-reaches c = reaches_found c.args.most c.args.until c.args.lane.now c.in-Held.is c.held_horizon.result c.held_horizon.ensures.holds

pub returns-in-Ended-clause-reaches : goal.returns-in-Ended-clause-reaches
returns-in-Ended-clause-reaches c = (omega arith, reaches_ended c.args.until c.args.most c.args.lane.now c.in-Ended.is)

pub returns-in-Some-clause-reaches : goal.returns-in-Some-clause-reaches
returns-in-Some-clause-reaches c = below_key c.below.result c.in-Some.high c.args.until (λ n. ReachesPast n c.args.most c.args.lane.now) c.below.ensures.until
    (λ n less. reaches_cut n c.args.most c.in-Some.high c.args.lane.now c.in-Malformed.is c.in-Some.is less)

pub returns-in-Some-clause-run : goal.returns-in-Some-clause-run
returns-in-Some-clause-run c = below_run c.below.result (HasRun c.args.lane.now) c.below.ensures.run
