use Rattle.std.proofs.Common.{◌<◌, ℕ, ap, length, arith, ◌∙◌}
use Rattle.std.proofs.lemmas.List.{length-set}
use Rattle.trace_base.specs.declared.part.Part.{Part}
use Rattle.time_merge.proofs.UnusedLanes.{one_set, still_unused}
use Rattle.time_merge.proofs.setting.set_lanes.Goals as goal

pub loop-i-preserved : goal.loop-i-preserved
loop-i-preserved c =
    let so_far = c.loop-i.invariant in
    let within : c.loop-i.i < length c.args.parts.now = omega arith in
    let inside : c.loop-i.i < length c.loop-i.lanes = omega (arith, so_far.same) in
    record {
      same = length-set c.loop-i.lanes c.loop-i.i c.set_lane.new.lane ∙ so_far.same;
      parts = one_set c.loop-i.lanes c.args.parts.now c.loop-i.i c.set_lane.new.lane c.index-parts-i.result inside within
          (c.set_lane.ensures.part.0 ∙ ap (λ (part : ℕ × Part). part.0) c.index-parts-i.is) (c.set_lane.ensures.part.1 ∙ ap (λ (part : ℕ × Part). part.1) c.index-parts-i.is) so_far.parts;
      unused = λ layout room all. still_unused layout room c.loop-i.lanes c.loop-i.i _ c.set_lane.new.lane inside c.set_lane.ensures.layout c.set_lane.ensures.cursor c.set_lane.ensures.page c.set_lane.ensures.region (so_far.unused layout room all);
    }
