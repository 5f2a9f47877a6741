-- The lanes of a report in rounds are those over the processors' parts.
use Rattle.std.proofs.Common.{◌≡◌, ℕ, List, subst}
use Rattle.trace_base.specs.declared.layout.Layout.{Layout}
use Rattle.trace_base.specs.declared.part.Part.{Part}
use Rattle.time_merge.specs.LaneRows.{parts_of}
use Rattle.report_rounds.specs.LanesSeen.{LanesSeen}

-- what is so of the lanes' layout and parts is so of these
pub over_lanes : (P : Layout → List (ℕ × Part) → Type 0) (lanes : LanesSeen) (layout : Layout) (parts : List (ℕ × Part)) → lanes.layout ≡ layout → parts_of lanes.all ≡ parts
    → P lanes.layout (parts_of lanes.all) → P layout parts
over_lanes P lanes layout parts same are is = subst (P layout) are (subst (λ (l : Layout). P l (parts_of lanes.all)) same is)
