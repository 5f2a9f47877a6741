use Rattle.std.proofs.Common.{List, subst, sym}
use Rattle.std.specs.List.{All}
use Rattle.page_pool.specs.declared.lane.Lane.{Lane}
use Rattle.time_merge.specs.LaneRows.{HasLayout}
use Rattle.time_merge.specs.LanesSeen.{LanesSeen}
use Rattle.time_merge.proofs.lanes.Lanes.all.Goals as goal

pub returns-clause-layouts : goal.returns-clause-layouts
returns-clause-layouts c =
    subst (λ (v : LanesSeen). All (HasLayout v.layout) c.all.result.now) c.self.view_is
    (subst (λ (lanes : List Lane). All (HasLayout c.self.inside.layout) lanes) (sym c.all.ensures) c.self.invariant.layouts)
