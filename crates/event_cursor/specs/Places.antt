-- Places among a processor's items that can be gone back to.
use Rattle.std.specs.Prelude.{◌≡◌, ℕ, ◌+◌, ◌-◌, ◌≤◌, is_none, unwrap_or, List, [], ◌++◌, length, drop, Option, Some}
use Rattle.std.specs.List.{position_from}
use Rattle.trace_base.specs.declared.layout.Layout.{Layout}
use Rattle.trace_base.specs.declared.part.Part.{Part}
use Rattle.subpage.specs.ItemData.{ItemData}
use Rattle.subpage.specs.Processor.{items_at, page_count, pages_from, joined, list_of, bad_of}
use Rattle.subpage.specs.Cut.{last_key}
use Rattle.page_pool.specs.declared.lane.Lane.{Lane}
use Rattle.page_pool.specs.declared.cursor.Cursor.{Cursor}
use Rattle.page_pool.specs.declared.cursor.LaneState.TheVariants.{Fresh, Held}
use Rattle.event_cursor.specs.declared.places.Place.{Place}
use Rattle.event_cursor.specs.declared.seeking.Sought.{Sought}
use Rattle.event_cursor.specs.declared.seeking.Sought.TheVariants as sought
use Rattle.event_cursor.specs.Standing.{left_of, bad_left, Stands}

-- the place of a cursor in the sub-buffer that is held
abbrev pub place_at : Cursor → Place
place_at cursor = record { page = cursor.held; at = cursor.at; high = cursor.high }

-- that of a lane
abbrev pub place_in : Lane → Place
place_in lane = place_at lane.cursor

-- the sub-buffers after that of a place
abbrev pub pages_behind : Layout → List ℕ → Part → Place → List (Option (List ItemData))
pages_behind layout file part place =
    pages_from layout file part (place.page + 1) (page_count layout part - (place.page + 1))

-- what is left of a processor's items after a place
abbrev pub left_behind : Layout → List ℕ → Part → Place → List ItemData
left_behind layout file part place =
    drop place.at (unwrap_or (items_at layout file part place.page) []) ++ joined (pages_behind layout file part place)

abbrev pub bad_behind : Layout → List ℕ → Part → Place → Option ℕ
bad_behind layout file part place = position_from is_none (place.page + 1) (pages_behind layout file part place)

-- the sub-buffer of the place is well formed and has so many items
pub record HasPlace (layout : Layout) (file : List ℕ) (part : Part) (place : Place) : Type 0 where
  pub all : List ItemData
  pub all_are : items_at layout file part place.page ≡ Some all
  pub within : place.at ≤ length all

-- A place of a processor's items, which it parts into those before it and those after it.
pub record IsPlace (layout : Layout) (file : List ℕ) (part : Part) (place : Place) : Type 0 where
  pub has : HasPlace layout file part place
  pub used : List ItemData
  pub parted : list_of layout file part ≡ used ++ left_behind layout file part place
  pub high : place.high ≡ last_key used
  pub bad : bad_of layout file part ≡ bad_behind layout file part place

-- the lane holds a sub-buffer at this place
pub record HoldsAt (place : Place) (lane : Lane) : Type 0 where
  pub state : lane.cursor.state ≡ Held
  pub held : lane.cursor.held ≡ place.page
  pub at : lane.cursor.at ≡ place.at
  pub high : lane.cursor.high ≡ place.high
  pub next : lane.cursor.next ≡ place.page + 1

-- the lane stands there, or holds no sub-buffer
abbrev pub IsSought : Place → Lane → Sought → Type 0
IsSought place lane sought.Held = HoldsAt place lane
IsSought place lane sought.Malformed = lane.cursor.state ≡ Fresh

-- The lane stands at the place, and has left what is after it.
pub record StandsAt (file : List ℕ) (place : Place) (lane : Lane) : Type 0 where
  pub stands : Stands file lane
  pub left : left_of file lane ≡ left_behind lane.layout file lane.part place
  pub bad : bad_left file lane ≡ bad_behind lane.layout file lane.part place

-- what the answer says of the file and the part: Malformed just where the part has no such place
abbrev pub SoughtIn : Layout → List ℕ → Part → Place → Lane → Sought → Type 0
SoughtIn layout file part place lane sought.Held =
    HasPlace layout file part place × (IsPlace layout file part place → StandsAt file place lane)
SoughtIn layout file part place lane sought.Malformed = HasPlace layout file part place → ⊥
