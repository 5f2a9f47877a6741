-- Lanes with their layout and the tree of what comes next of them, seen without the tree.
use Rattle.std.specs.Prelude.{◌≡◌, All, length}
use Rattle.subpage.specs.Arrangement.{CpusRise}
use Rattle.time_merge.specs.LaneRows.{HasLayout, parts_of}
use Rattle.time_merge.specs.LanesSeen.{LanesSeen}
use Rattle.time_merge.specs.Readiness.{AreKnown}
use Rattle.time_merge.specs.declared.lanes.Lanes.TheInside.{Inside}

abbrev pub lanes_view : Inside → LanesSeen
lanes_view lanes = record { layout = lanes.layout; all = lanes.pool; readiness = lanes.readiness }

-- They have one layout and are those of processors whose numbers rise, and the tree has a slot for each, and tells what comes
-- next where that is known.
pub record AreLanes (lanes : Inside) : Type 0 where
  pub layouts : All (HasLayout lanes.layout) lanes.pool
  pub rise : CpusRise (parts_of lanes.pool)
  pub slots : length lanes.nexts ≡ length lanes.pool
  pub known : AreKnown lanes.pool lanes.nexts lanes.readiness
