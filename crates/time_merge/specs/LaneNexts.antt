-- Which lane is next, told with its place.
use Rattle.std.specs.Prelude.{◌≡◌, ℕ, ◌<◌, List, [], length, slice_index_or, Some, None}
use Rattle.subpage.specs.Cut.{Cut}
use Rattle.page_pool.specs.declared.lane.Lane.{Lane}
use Rattle.page_pool.specs.declared.cursor.LaneState.TheVariants.{Held}
use Rattle.event_cursor.specs.Standing.{held_left}
use Rattle.time_merge.specs.Rows.{least_cut}
use Rattle.time_merge.specs.LaneRows.{rows_of, to_come}
use Rattle.time_merge.specs.Nexts.{IsNextLane}
use Rattle.time_merge.specs.declared.lane_nexts.LaneNext.{LaneNext}
use Rattle.time_merge.specs.declared.lane_nexts.LaneNext.TheVariants as next

-- the cut of a lane that stands before a malformed sub-buffer
abbrev pub cut_at : List Lane → ℕ → Lane → Cut
cut_at lanes i d = record {
  key = (slice_index_or lanes i d).cursor.high;
  cpu = (slice_index_or lanes i d).cpu;
  page = (slice_index_or lanes i d).cursor.next;
}

abbrev pub IsLaneNext : List ℕ → List Lane → LaneNext → Type 0
IsLaneNext file lanes (next.Item i) = IsNextLane file lanes i
IsLaneNext file lanes (next.Cut i) =
    (to_come file lanes ≡ []) × ((d : Lane) → least_cut (rows_of file lanes) ≡ Some (cut_at lanes i d))
IsLaneNext file lanes next.Done = (to_come file lanes ≡ []) × (least_cut (rows_of file lanes) ≡ None)

-- a lane of which an item is next holds it
abbrev pub HoldsLaneNext : List Lane → LaneNext → Type 0
HoldsLaneNext lanes (next.Item i) =
    (i < length lanes)
    × ((d : Lane) → ((slice_index_or lanes i d).cursor.state ≡ Held) × (0 < length (held_left (slice_index_or lanes i d))))
HoldsLaneNext lanes (next.Cut i) = i < length lanes
HoldsLaneNext lanes next.Done = Unit {0}
