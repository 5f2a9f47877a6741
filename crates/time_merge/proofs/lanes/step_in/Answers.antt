use Rattle.time_merge.proofs.LentLanes.{lent_step}
use Rattle.time_merge.proofs.lanes.step_in.Goals as goal

pub returns : goal.returns
returns c = record {
  stepped =
      lent_step c.args.pool.now c.lanes-lanes.result.now c.args.i c.index-lanes-i.result c.step.new.lane c.lanes-lanes.ensures.value c.requires.inside c.step.ensures.used c.step.ensures.most;
}
