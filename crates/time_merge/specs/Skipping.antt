-- Items that do not matter, which may be used up before their turn.
use Rattle.std.specs.Prelude.{◌≡◌, ℕ, ◌<◌, Bool, false, List, filter, slice_index_or, slice_set, Some}
use Rattle.subpage.specs.ItemData.{ItemData}
use Rattle.subpage.specs.Arrangement.{Keyed}
use Rattle.page_pool.specs.declared.lane.Lane.{Lane}
use Rattle.event_cursor.specs.Keys.{first_of}
use Rattle.event_cursor.specs.Standing.{Stands, keyed_held, most_left}
use Rattle.event_cursor.specs.Stepping.{IsStepped}
use Rattle.time_merge.specs.LaneRows.{row_of}

-- an item with its key matters or not by its processor and what it is
abbrev pub by_item : (ℕ → ItemData → Bool) → Keyed → Bool
by_item matters x = matters x.cpu x.item

-- the first item of a lane that is not used up does not matter
abbrev pub IsOtherFirst : (ℕ → ItemData → Bool) → Lane → Type 0
IsOtherFirst matters lane = (x : Keyed) → first_of (keyed_held lane) ≡ Some x → by_item matters x ≡ false

-- Of the held sub-buffer no items were used up but such: what is left that matters is the same.
pub record IsSkipped (matters : ℕ → ItemData → Bool) (before now : Lane) : Type 0 where
  pub cpu : now.cpu ≡ before.cpu
  pub layout : now.layout ≡ before.layout
  pub part : now.part ≡ before.part
  pub state : now.cursor.state ≡ before.cursor.state
  pub next : now.cursor.next ≡ before.cursor.next
  pub stands : (file : List ℕ) → Stands file before → Stands file now
  pub same : (file : List ℕ) → filter (by_item matters) (row_of file before).items ≡ filter (by_item matters) (row_of file now).items

-- The first item of a lane was used up, and after it some that do not matter.
pub record IsUsedUp (matters : ℕ → ItemData → Bool) (before now : Lane) : Type 0 where
  pub mid : Lane
  pub stepped : IsStepped before mid
  pub skipped : IsSkipped matters mid now

-- So it was of one lane of several. The others are as they were.
pub record IsLaneUsedUp (matters : ℕ → ItemData → Bool) (before : List Lane) (i : ℕ) (now : List Lane) : Type 0 where
  pub lane : Lane
  pub set : now ≡ slice_set before i lane
  pub used : (d : Lane) → IsUsedUp matters (slice_index_or before i d) lane
  pub most : (d : Lane) → most_left lane < most_left (slice_index_or before i d)
