use Rattle.std.proofs.Common.{subst}
use Rattle.std.specs.List.{All}
use Rattle.time_merge.specs.LaneRows.{HasLayout}
use Rattle.split_passes.specs.ListSeen.{ListSeen}
use Rattle.split_passes.proofs.list.LaneList.lanes.Goals as goal

pub returns-clause-layouts : goal.returns-clause-layouts
returns-clause-layouts c = subst (λ (v : ListSeen). All (HasLayout v.layout) v.all) c.self.view_is c.self.invariant.layouts
