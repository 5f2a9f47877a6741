-- Lanes that go through items.
use Rattle.std.specs.Prelude.{◌≡◌, ℕ, ◌+◌, ◌-◌, ◌<◌, ◌≤◌, List, length, slice_index_or}
use Rattle.trace_outside.specs.declared.outside.File as file
use Rattle.trace_outside.specs.Causes.{raised}
use Rattle.trace_outside.specs.Keeping.{KeepsFile}
use Rattle.page_pool.specs.declared.cursor.LaneState.TheVariants.{Held}
use Rattle.page_pool.specs.declared.lane.Lane.{Lane}
use Rattle.page_pool.specs.Keeping.{KeepsLane, seeking}
use Rattle.time_merge.specs.Advancing.{Advances}
use Rattle.time_merge.specs.LaneRows.{parts_of}
use Rattle.time_merge.specs.Reads.{all_reading, all_unread}
use Rattle.split_passes.specs.Reads.{sizes_between}

-- Lanes went through items of their file, maybe none: they keep their layouts and parts, each went on or
-- stayed as it was, and each sub-buffer was read once.
pub record GoThrough {F : Type 0} (f : file.Ghosts F) (file_before file_now : F) (before now : List Lane) : Type 0 where
  pub parts : parts_of now ≡ parts_of before
  pub advance : (i : ℕ) (d : Lane) → i < length before → Advances (slice_index_or before i d) (slice_index_or now i d)
  pub reads : f.reads file_now ≤ raised (f.reads file_before)
      (all_unread (f.size file_before) before - all_unread (f.size file_before) now + all_reading (f.size file_before) now)
  pub unread : all_unread (f.size file_before) now ≤ all_unread (f.size file_before) before
  pub keeps : KeepsFile f file_before file_now

-- One lane went on among its sub-buffers before a limit, or failed on the way: it keeps its layout and its part, and each
-- of them was read once at most.
pub record GoesUpTo {F : Type 0} (f : file.Ghosts F) (limit : ℕ) (file_before file_now : F) (before now : Lane) : Type 0 where
  pub part : KeepsLane seeking before now
  pub reads : f.reads file_now
      ≤ raised (f.reads file_before) (sizes_between before.layout (f.size file_before) before.part before.cursor.next limit)
  pub keeps : KeepsFile f file_before file_now

-- the lane holds a sub-buffer before the limit, and went on
pub record StaysBefore (limit : ℕ) (before now : Lane) : Type 0 where
  pub held : now.cursor.state ≡ Held
  pub forward : before.cursor.next ≤ now.cursor.next
  pub within : now.cursor.next ≤ limit

-- It came to what it was to find, and nothing after the sub-buffer that it holds was read.
pub record CameTo {F : Type 0} (f : file.Ghosts F) (limit : ℕ) (file_before file_now : F) (before now : Lane) : Type 0 where
  pub stays : StaysBefore limit before now
  pub reads : f.reads file_now
      ≤ raised (f.reads file_before) (sizes_between before.layout (f.size file_before) before.part before.cursor.next now.cursor.next)
