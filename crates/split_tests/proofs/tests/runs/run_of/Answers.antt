use Rattle.std.proofs.Common.{◌≡◌, ◌<◌, List, length, ap, sym, subst, ◌∙◌, arith}
use Rattle.std.specs.List.{All}
use Rattle.std.proofs.lemmas.List.Elements.{All-weaker}
use Rattle.page_pool.specs.Fresh.{IsNew}
use Rattle.page_pool.specs.declared.lane.Lane.{Lane}
use Rattle.time_merge.specs.LaneRows.{HasLayout}
use Rattle.split_tests.proofs.tests.runs.run_of.Goals as goal

pub run_after_first-requires-clause-same : goal.run_after_first-requires-clause-same
run_after_first-requires-clause-same c =
    let layout = c.layout-layout.result in
    let lanes = c.lanes-lanes.result.now in
    let before : All (HasLayout layout) lanes =
    subst (λ (ls : List Lane). All (HasLayout layout) ls) (sym c.lanes-lanes.ensures.value) (All-weaker (IsNew layout 0) (HasLayout layout) (λ a is. is.layout_is) _ c.in_ok-pool.ensures.lanes) in
    let long : length lanes ≡ 2 = ap length c.lanes-lanes.ensures.value ∙ c.in_ok-pool.ensures.count in
    let inside : 0 < length c.set_parts.new.lanes = omega (arith, long, c.set_parts.auto.lanes) in
    c.new-packer.ensures.layout ∙ sym (c.loads.ensures.layout ∙ c.set_parts.ensures.layouts layout before 0 c.index-lanes-0.result inside)
