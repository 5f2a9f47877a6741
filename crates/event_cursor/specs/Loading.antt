-- What loading does to a lane.
use Rattle.std.specs.Prelude.{◌≡◌, ℕ, ◌+◌, ◌-◌, ◌<◌, ◌≤◌, IfSome, List, [], length, Option, Some, None}
use Rattle.trace_outside.specs.declared.outside.File as file
use Rattle.trace_outside.specs.Causes.{raised}
use Rattle.trace_outside.specs.Keeping.{KeepsFile}
use Rattle.page_pool.specs.declared.lane.Lane.{Lane}
use Rattle.page_pool.specs.declared.cursor.LaneState.TheVariants.{Fresh, Held, Ended, Malformed}
use Rattle.page_pool.specs.Keeping.{KeepsLane, loading}
use Rattle.event_cursor.specs.declared.loading.Loaded.{Loaded}
use Rattle.event_cursor.specs.declared.loading.Loaded.TheVariants as loaded
use Rattle.event_cursor.specs.Standing.{Stands, held_left, left_of, bad_left, most_left}
use Rattle.event_cursor.specs.Unread.{IsAsked, reading, size_there, unread}

-- What was left is left.
pub record KeepsLeft (file : List ℕ) (before now : Lane) : Type 0 where
  pub left : left_of file now ≡ left_of file before
  pub bad : bad_left file now ≡ bad_left file before

-- Nothing of the lane was used up while it was made ready: what was left of it is left, and it stands as it stood.
pub record IsReadied (told : Option (List ℕ)) (before now : Lane) : Type 0 where
  pub place : KeepsLane loading before now
  pub left : IfSome told (λ file. KeepsLeft file before now)
  pub stands : IfSome told (λ file. Stands file before → Stands file now)
  pub most : most_left now ≤ most_left before

-- A lane loaded sub-buffers, maybe none: nothing of it was used up, and each sub-buffer from the next one on was read once,
-- up to that at which loading stopped.
pub record LoadsLane {F : Type 0} (f : file.Ghosts F) (file_before file_now : F) (before now : Lane) : Type 0 where
  pub readied : IsReadied (f.bytes file_before) before now
  pub reads : f.reads file_now ≤ raised (f.reads file_before)
      (unread (f.size file_before) before - unread (f.size file_before) now + reading (f.size file_before) now)
  pub unread : unread (f.size file_before) now ≤ unread (f.size file_before) before
  pub keeps : KeepsFile f file_before file_now

-- the lane's state by the answer
abbrev pub IsState : Lane → Loaded → Type 0
IsState lane loaded.Loaded = (lane.cursor.state ≡ Held) × (0 < length (held_left lane))
IsState lane loaded.End = lane.cursor.state ≡ Ended
IsState lane (loaded.Malformed k) = (lane.cursor.state ≡ Malformed) × (lane.cursor.next ≡ k)

-- what the answer says of the file
abbrev pub IsAnswer : List ℕ → Lane → Loaded → Type 0
IsAnswer file lane loaded.Loaded = Unit {0}
IsAnswer file lane loaded.End = (left_of file lane ≡ []) × (bad_left file lane ≡ None)
IsAnswer file lane (loaded.Malformed k) =
    (left_of file lane ≡ []) × (bad_left file lane ≡ Some k)

-- A sub-buffer without an item was gone through.
pub record IsPassed (len : ℕ) (before now : Lane) : Type 0 where
  pub fresh : now.cursor.state ≡ Fresh
  pub next : now.cursor.next ≡ before.cursor.next + 1
  pub read : unread len before
      ≡ unread len now + size_there before.layout len before.part before.cursor.next

-- what loading the next sub-buffer comes to
abbrev pub ComesTo : ℕ → Lane → Lane → Option Loaded → Type 0
ComesTo len before now None = IsPassed len before now
ComesTo len before now (Some answer) = IsState now answer × IsAsked len before now
