-- How far a lane goes before others have their turn.
use Rattle.std.specs.Prelude.{◌≡◌, ℕ, ◌≤◌, All, List, ◌++◌, slice_index_or, slice_set}
use Rattle.subpage.specs.ItemData.{ItemData}
use Rattle.subpage.specs.Arrangement.{Keyed}
use Rattle.page_pool.specs.declared.lane.Lane.{Lane}
use Rattle.event_cursor.specs.Keys.{keyed_behind}
use Rattle.event_cursor.specs.Stepping.{IsSteppedOver}
use Rattle.time_merge.specs.LaneRows.{to_come}

-- items that a lane uses up, with their keys
abbrev pub keyed_used : Lane → List ItemData → List Keyed
keyed_used lane xs = keyed_behind lane.cpu lane.cursor.high xs

-- Items of lane i with a key up to this one come before all others that are to come, and once they are used the others are left.
abbrev pub HasTurn : List ℕ → List Lane → ℕ → ℕ → Type 0
HasTurn file lanes i until =
    (d now : Lane) (xs : List ItemData) → IsSteppedOver xs (slice_index_or lanes i d) now
    → All (λ x. x.key ≤ until) (keyed_used (slice_index_or lanes i d) xs)
    → to_come file lanes ≡ keyed_used (slice_index_or lanes i d) xs ++ to_come file (slice_set lanes i now)
