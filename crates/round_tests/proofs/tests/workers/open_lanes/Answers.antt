use Rattle.std.proofs.Common.{◌<◌, ◌∙◌, length, arith}
use Rattle.std.proofs.lemmas.List.Elements.{All-get_or, All-set}
use Rattle.time_merge.specs.LaneRows.{HasLayout}
use Rattle.round_tests.proofs.tests.workers.open_lanes.Goals as goal

pub loop-i-init : goal.loop-i-init
loop-i-init c = λ layout same. same

pub loop-i-preserved : goal.loop-i-preserved
loop-i-preserved c = λ layout same.
    let all = c.loop-i.invariant layout same in
    let inside : c.loop-i.i < length c.loop-i.lanes = omega (arith, c.loop-i.auto.lanes) in
    All-set (HasLayout layout) c.loop-i.lanes c.loop-i.i c.open_lane.new.lane (c.open_lane.ensures.layout ∙ All-get_or (HasLayout layout) c.loop-i.lanes c.loop-i.i _ inside all) all
