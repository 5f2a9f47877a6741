use Rattle.std.proofs.Common.{◌≡◌, List, length, map, ap, subst, sym, ◌∙◌}
use Rattle.std.specs.List.{All}
use Rattle.page_pool.specs.declared.lane.Lane.{Lane}
use Rattle.time_merge.specs.LaneRows.{IsReady, next_of}
use Rattle.time_merge.proofs.Advancing.{same_length}
use Rattle.time_merge.proofs.LentLanes.{all_written, lent_loads}
use Rattle.time_merge.proofs.lanes.make_pool_ready.Goals as goal

pub returns-in_err-make_ready_by-clause-loads : goal.returns-in_err-make_ready_by-clause-loads
returns-in_err-make_ready_by-clause-loads g c =
    lent_loads g.F.File c.args.file.now c.make_ready_by.new.file c.args.pool.now c.lanes.result.now c.make_ready_by.new.lanes c.lanes.ensures.value c.make_ready_by.ensures.loads

pub returns-clause-loads : goal.returns-clause-loads
returns-clause-loads g c =
    lent_loads g.F.File c.args.file.now c.make_ready_by.new.file c.args.pool.now c.lanes.result.now c.make_ready_by.new.lanes c.lanes.ensures.value c.make_ready_by.ensures.loads

pub returns-clause-nexts : goal.returns-clause-nexts
returns-clause-nexts g c =
    let now = c.make_ready_by.new.lanes in
    let long : length now ≡ length c.args.pool.now = same_length now c.lanes.result.now c.make_ready_by.ensures.loads.parts ∙ ap length c.lanes.ensures.value in
    c.in_ok-make_ready_by.ensures.nexts ∙ ap (map next_of) (sym (all_written c.args.pool.now now long))

pub returns-clause-ready : goal.returns-clause-ready
returns-clause-ready g c =
    let now = c.make_ready_by.new.lanes in
    let long : length now ≡ length c.args.pool.now = same_length now c.lanes.result.now c.make_ready_by.ensures.loads.parts ∙ ap length c.lanes.ensures.value in
    subst (λ (lanes : List Lane). All IsReady lanes) (sym (all_written c.args.pool.now now long)) c.in_ok-make_ready_by.ensures.ready
