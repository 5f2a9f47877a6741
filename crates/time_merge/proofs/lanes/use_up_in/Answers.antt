use Rattle.time_merge.proofs.LentLanes.{lent_used}
use Rattle.time_merge.proofs.lanes.use_up_in.Goals as goal

pub returns : goal.returns
returns g c = record {
  used =
      lent_used (g.O.Others.matters c.args.others.now) c.args.pool.now c.lanes-lanes.result.now c.args.i c.index-lanes-i.result c.use_up.new.lane c.lanes-lanes.ensures.value c.requires.inside c.use_up.ensures.used c.use_up.ensures.most;
}
