-- The lanes of a report in rounds, seen without their trees and dirty bits.
use Rattle.std.specs.Prelude.{◌≡◌, All, length, replicate, true}
use Rattle.subpage.specs.Arrangement.{CpusRise}
use Rattle.time_merge.specs.LaneRows.{parts_of}
use Rattle.report_rounds.specs.Between.{IsAtStart}
use Rattle.report_rounds.specs.LanesSeen.{LanesSeen}
use Rattle.report_rounds.specs.declared.lanes.RoundLanes.TheInside.{Inside}

abbrev pub lanes_view : Inside → LanesSeen
lanes_view lanes = record { layout = lanes.layout; all = lanes.pool }

-- They have their layout and stand before their first items, the processors' numbers rise, each has a slot in both trees, and all are dirty.
pub record AreAtStart (lanes : Inside) : Type 0 where
  pub start : All (IsAtStart lanes.layout) lanes.pool
  pub rise : CpusRise (parts_of lanes.pool)
  pub heads : length lanes.heads ≡ length lanes.pool
  pub highs : length lanes.highs ≡ length lanes.pool
  pub moved : lanes.moved.items ≡ replicate (length lanes.pool) true
