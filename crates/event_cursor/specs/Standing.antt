-- Where a lane stands among its processor's items: which of them are used up, and which are left.
use Rattle.std.specs.Prelude.{◌≡◌, ℕ, ◌+◌, ◌-◌, ◌*◌, ◌^◌, true, is_none, List, [], ◌++◌, Option, Some, None}
use Rattle.std.specs.List.{position_from}
use Rattle.subpage.specs.ItemData.{ItemData}
use Rattle.subpage.specs.Marks.{items_from}
use Rattle.subpage.specs.Processor.{is_there, page_bytes, page_count, pages_from, joined, list_of, bad_of}
use Rattle.subpage.specs.Arrangement.{Keyed}
use Rattle.subpage.specs.Cut.{last_key}
use Rattle.page_pool.specs.declared.lane.Lane.{Lane}
use Rattle.page_pool.specs.declared.cursor.LaneState.{LaneState}
use Rattle.page_pool.specs.declared.cursor.LaneState.TheVariants.{Fresh, Held, Ended, Malformed}
use Rattle.event_cursor.specs.Keys.{keyed_behind}

-- these where a sub-buffer is held, and nothing where none is
abbrev pub if_held : LaneState → List ItemData → List ItemData
if_held Fresh xs = []
if_held Held xs = xs
if_held Ended xs = []
if_held Malformed xs = []

-- what is left of the held sub-buffer
abbrev pub held_left : Lane → List ItemData
held_left lane = if_held lane.cursor.state (items_from lane.layout lane.page lane.cursor.mark)

-- with their keys
abbrev pub keyed_held : Lane → List Keyed
keyed_held lane = keyed_behind lane.cpu lane.cursor.high (held_left lane)

-- the sub-buffers that were not loaded yet
abbrev pub pages_left : List ℕ → Lane → List (Option (List ItemData))
pages_left file lane =
    pages_from lane.layout file lane.part lane.cursor.next (page_count lane.layout lane.part - lane.cursor.next)

-- what is left of the processor's items
unfoldable pub left_of : List ℕ → Lane → List ItemData
left_of file lane = held_left lane ++ joined (pages_left file lane)

-- the first malformed sub-buffer among those that were not loaded yet
unfoldable pub bad_left : List ℕ → Lane → Option ℕ
bad_left file lane = position_from is_none lane.cursor.next (pages_left file lane)

-- the buffer holds that sub-buffer of the file
pub record HoldsOwn (file : List ℕ) (lane : Lane) : Type 0 where
  pub there : is_there lane.layout file lane.part lane.cursor.held ≡ true
  pub page : lane.page ≡ page_bytes lane.layout file lane.part lane.cursor.held

abbrev pub OwnIfHeld : List ℕ → Lane → Type 0
OwnIfHeld file lane = lane.cursor.state ≡ Held → HoldsOwn file lane

-- The lane stands at a place of its processor's items, which it parts into those that are used up and those that are
-- left, and its greatest time is that of the used ones. After the last item, and before a malformed sub-buffer, nothing
-- is left.
pub record Stands (file : List ℕ) (lane : Lane) : Type 0 where
  pub used : List ItemData
  pub parted : list_of lane.layout file lane.part ≡ used ++ left_of file lane
  pub high : lane.cursor.high ≡ last_key used
  pub bad : bad_of lane.layout file lane.part ≡ bad_left file lane
  pub own : OwnIfHeld file lane
  pub ended : lane.cursor.state ≡ Ended → (left_of file lane ≡ []) × (bad_left file lane ≡ None)
  pub malformed : lane.cursor.state ≡ Malformed
      → (left_of file lane ≡ []) × (bad_left file lane ≡ Some lane.cursor.next)

-- No more items than this are left, whatever the file: each sub-buffer has fewer than 2^32.
abbrev pub most_left : Lane → ℕ
most_left lane = (page_count lane.layout lane.part - lane.cursor.next) * 2 ^ 32 + (2 ^ 32 - lane.cursor.at)
