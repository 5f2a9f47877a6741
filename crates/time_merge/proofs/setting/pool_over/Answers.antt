use Rattle.std.proofs.Common.{◌≡◌, List, length, ap, subst, sym, arith}
use Rattle.std.specs.List.{All}
use Rattle.page_pool.specs.declared.lane.Lane.{Lane}
use Rattle.time_merge.specs.Unused.{IsUnused}
use Rattle.time_merge.proofs.UnusedLanes.{new_unused}
use Rattle.time_merge.proofs.LentLanes.{all_written}
use Rattle.time_merge.proofs.setting.pool_over.Goals as goal

pub returns-clause-count : goal.returns-clause-count
returns-clause-count c =
    let lanes = c.set_lanes.new.lanes in
    let same : length lanes ≡ length c.in_ok-pool.pool = omega (arith, c.set_lanes.auto.lanes, ap length c.lanes.ensures.value) in
    omega (arith, ap length (all_written c.in_ok-pool.pool lanes same), same, c.in_ok-pool.ensures.count)

pub returns-clause-unused : goal.returns-clause-unused
returns-clause-unused c =
    let lanes = c.set_lanes.new.lanes in
    let same : length lanes ≡ length c.in_ok-pool.pool = omega (arith, c.set_lanes.auto.lanes, ap length c.lanes.ensures.value) in
    subst (λ (xs : List Lane). All (IsUnused c.args.layout.now c.args.room) xs) (sym (all_written c.in_ok-pool.pool lanes same))
    (c.set_lanes.ensures.unused c.args.layout.now c.args.room (new_unused c.args.layout.now c.args.room c.in_ok-pool.pool c.lanes.result.now c.lanes.ensures.value c.in_ok-pool.ensures.lanes))
