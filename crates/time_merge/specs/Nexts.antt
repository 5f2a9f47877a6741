-- Which lane is next.
use Rattle.std.specs.Prelude.{◌≡◌, ◌≢◌, ℕ, ◌<◌, All, List, [], ◌∷◌, length, slice_set, slice_index_or, Option, Some, None}
pub use Rattle.tournament_tree.specs.Least.{IsLeastOf, IsLeastAt}
use Rattle.tournament_tree.specs.declared.slot_key.SlotKey.{SlotKey}
use Rattle.tournament_tree.specs.declared.slot_key.SlotKey.TheVariants.{Empty}
use Rattle.subpage.specs.Arrangement.{Keyed}
use Rattle.subpage.specs.CutPlaces.{cut_at}
use Rattle.page_pool.specs.declared.lane.Lane.{Lane}
use Rattle.page_pool.specs.declared.cursor.LaneState.TheVariants.{Held}
use Rattle.event_cursor.specs.Stepping.{IsStepped}
use Rattle.event_cursor.specs.Keys.{first_of}
use Rattle.event_cursor.specs.Standing.{held_left, keyed_held}
use Rattle.time_merge.specs.declared.next_lanes.Next.{Next}
use Rattle.time_merge.specs.declared.next_lanes.Next.TheVariants as code
use Rattle.time_merge.specs.Rows.{least_cut}
use Rattle.time_merge.specs.LaneRows.{IsReady, next_of, rows_of, to_come}

abbrev pub IsBest : List SlotKey → Option (ℕ × Option ℕ) → Type 0
IsBest nexts None = All (λ next. next ≡ Empty) nexts
IsBest nexts (Some best) = IsLeastOf nexts best.0 best.1

-- Lane i holds the next of the reached items that are left: it is the lane's first, and once it is used the others are left.
pub record IsNextLane (file : List ℕ) (lanes : List Lane) (i : ℕ) : Type 0 where
  pub item : Keyed
  pub first : (d : Lane) → first_of (keyed_held (slice_index_or lanes i d)) ≡ Some item
  pub come : (rest : List Keyed) × (to_come file lanes ≡ item ∷ rest)
  pub used : (d now : Lane) → IsStepped (slice_index_or lanes i d) now → to_come file lanes ≡ item ∷ to_come file (slice_set lanes i now)

abbrev pub IsNext : List ℕ → List Lane → Next → Type 0
IsNext file lanes (code.Lane i) = IsNextLane file lanes i
IsNext file lanes code.Done = (to_come file lanes ≡ []) × (least_cut (rows_of file lanes) ≡ None)
IsNext file lanes (code.Malformed cut) =
    (to_come file lanes ≡ []) × ((key : Option ℕ) × (least_cut (rows_of file lanes) ≡ Some (cut_at key cut)))

-- a lane that is next holds an item
abbrev pub HoldsNext : List Lane → Next → Type 0
HoldsNext lanes (code.Lane i) =
    (i < length lanes) × ((d : Lane) → ((slice_index_or lanes i d).cursor.state ≡ Held) × (0 < length (held_left (slice_index_or lanes i d))))
HoldsNext lanes code.Done = Unit {0}
HoldsNext lanes (code.Malformed cut) = Unit {0}

-- All lanes are ready and keys tell what comes next of them, but for one lane, of which an item was used.
pub record IsInStepBut (lanes : List Lane) (keys : List SlotKey) (i : ℕ) : Type 0 where
  pub inside : i < length lanes
  pub ready : (j : ℕ) (d : Lane) → j < length lanes → j ≢ i → IsReady (slice_index_or lanes j d)
  pub keys_are : (j : ℕ) (d : Lane) → j < length lanes → j ≢ i
      → slice_index_or keys j Empty ≡ next_of (slice_index_or lanes j d)

-- before the first item nothing is known of the keys
abbrev pub IsInStep : List Lane → List SlotKey → Option ℕ → Type 0
IsInStep lanes keys None = Unit {0}
IsInStep lanes keys (Some i) = IsInStepBut lanes keys i
