use Rattle.std.proofs.Common.{refl, arith}
use Rattle.split_passes.proofs.HorizonLaws.{reaches_more, reaches_sooner}
use Rattle.split_passes.proofs.horizon.horizon.Goals as goal

pub loop-i-preserved : goal.loop-i-preserved
loop-i-preserved c =
    let most = c.args.most in
    let until = c.loop-i.least.until in
    let found = c.if-not-with_lane.ensures.reaches refl in
    let before = c.loop-i.invariant in
    record {
      up_to = omega (arith, before.up_to, found.0);
      first = λ d. reaches_sooner until most c.with_lane.new.least.until _ found.0 (before.first d);
      before = reaches_more most until c.with_lane.new.least.until c.loop-i.i c.args.lanes.now found.0 before.before found.1;
      run = c.if-not-with_lane.ensures.run;
    }
