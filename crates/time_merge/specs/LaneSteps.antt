-- One of several lanes, one item on.
use Rattle.std.specs.Prelude.{◌≡◌, ℕ, ◌+◌, List, slice_index_or, slice_set}
use Rattle.page_pool.specs.declared.lane.Lane.{Lane}
use Rattle.event_cursor.specs.Standing.{most_left}
use Rattle.event_cursor.specs.Stepping.{IsStepped}

-- One lane used up the item that it held. The others are as they were.
pub record IsLaneStep (before : List Lane) (i : ℕ) (now : List Lane) : Type 0 where
  pub lane : Lane
  pub set : now ≡ slice_set before i lane
  pub stepped : (d : Lane) → IsStepped (slice_index_or before i d) lane
  pub most : (d : Lane) → most_left lane + 1 ≡ most_left (slice_index_or before i d)
