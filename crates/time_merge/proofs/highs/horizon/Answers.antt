use Rattle.std.proofs.Common.{map, subst}
use Rattle.time_merge.specs.Horizons.{high_of}
use Rattle.time_merge.specs.Nexts.{IsLeastAt}
use Rattle.time_merge.proofs.LeastHigh.{least_lane}
use Rattle.time_merge.proofs.highs.horizon.Goals as goal

pub returns-in-None : goal.returns-in-None
returns-in-None c =
    let least = subst (IsLeastAt (map high_of c.args.lanes.now)) c.in-Some.is c.requires.least in
    least_lane c.args.lanes.now c.in-Some.i least.0 _ _ c.index-lanes-i.result (c.requires.inside _ c.in-Some.is) least.1 c.in-None.is

pub returns-in-Some-high : goal.returns-in-Some-high
returns-in-Some-high c =
    let least = subst (IsLeastAt (map high_of c.args.lanes.now)) c.in-Some.is c.requires.least in
    least_lane c.args.lanes.now c.in-Some.i least.0 _ _ c.index-lanes-i-in-Some-high.result (c.requires.inside _ c.in-Some.is) least.1 c.in-Some-high.is
