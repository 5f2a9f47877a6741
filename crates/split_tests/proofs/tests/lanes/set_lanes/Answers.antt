use Rattle.std.proofs.Common.{◌<◌, length, arith, ◌∙◌}
use Rattle.std.proofs.lemmas.List.{length-set}
use Rattle.std.proofs.lemmas.List.Elements.{All-get_or, All-set}
use Rattle.time_merge.specs.LaneRows.{HasLayout}
use Rattle.split_tests.proofs.LanesInRow.{set_numbered, numbered_rise}
use Rattle.split_tests.proofs.tests.lanes.set_lanes.Goals as goal

pub loop-i-init : goal.loop-i-init
loop-i-init c = record {
  same = c.requires.long;
  layouts = λ layout same. same;
  numbered = λ j d lt. absurd (omega (arith, lt));
}

pub loop-i-preserved : goal.loop-i-preserved
loop-i-preserved c =
    let so_far = c.loop-i.invariant in
    let inside : c.loop-i.i < length c.loop-i.lanes = omega (arith, so_far.same) in
    record {
      same = length-set c.loop-i.lanes c.loop-i.i c.set_lane.new.lane ∙ so_far.same;
      layouts = λ layout same.
          let all = so_far.layouts layout same in
          All-set (HasLayout layout) c.loop-i.lanes c.loop-i.i c.set_lane.new.lane (c.set_lane.ensures.layout ∙ All-get_or (HasLayout layout) c.loop-i.lanes c.loop-i.i _ inside all) all;
      numbered = set_numbered c.args.first c.loop-i.i c.loop-i.lanes c.set_lane.new.lane inside (omega (arith, c.set_lane.ensures.cpu)) so_far.numbered;
    }

pub returns-clause-rise : goal.returns-clause-rise
returns-clause-rise c =
    let so_far = c.loop-i.invariant in
    numbered_rise c.args.first c.loop-i.lanes (λ j d lt. so_far.numbered j d (omega (arith, lt, so_far.same)))
