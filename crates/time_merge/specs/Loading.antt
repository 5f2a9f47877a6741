-- What loading does to lanes and their file.
use Rattle.std.specs.Prelude.{◌≡◌, ℕ, ◌+◌, ◌-◌, ◌<◌, ◌≤◌, IfSome, All, List, length, slice_index_or, sum_by, Result, OnErr, OnOk}
use Rattle.trace_base.specs.declared.layout.Layout.{Layout}
use Rattle.trace_outside.specs.declared.outside.File as file
use Rattle.trace_outside.specs.Causes.{HasCause, raised}
use Rattle.trace_outside.specs.Keeping.{KeepsFile}
use Rattle.page_pool.specs.declared.lane.Lane.{Lane}
use Rattle.event_cursor.specs.Standing.{Stands, most_left}
use Rattle.event_cursor.specs.Loading.{IsReadied}
use Rattle.time_merge.specs.Advancing.{Advances}
use Rattle.time_merge.specs.LaneRows.{HasLayout, IsReady, parts_of, rows_of}
use Rattle.time_merge.specs.Reads.{HasStopped, all_reading, all_unread}

-- Lanes loaded sub-buffers, maybe none: nothing of what they have left was used up, each went on or stayed as it was, and
-- each sub-buffer was read once.
pub record LoadsLanes {F : Type 0} (f : file.Ghosts F) (file_before file_now : F) (before now : List Lane) : Type 0 where
  pub layouts : (layout : Layout) → All (HasLayout layout) before → All (HasLayout layout) now
  pub parts : parts_of now ≡ parts_of before
  pub advance : (i : ℕ) (d : Lane) → i < length before → Advances (slice_index_or before i d) (slice_index_or now i d)
  pub rows : IfSome (f.bytes file_before) (λ bytes. rows_of bytes now ≡ rows_of bytes before)
  pub stands : IfSome (f.bytes file_before) (λ bytes. All (Stands bytes) before → All (Stands bytes) now)
  pub most : sum_by most_left now ≤ sum_by most_left before
  pub reads : f.reads file_now ≤ raised (f.reads file_before)
      (all_unread (f.size file_before) before - all_unread (f.size file_before) now + all_reading (f.size file_before) now)
  pub unread : all_unread (f.size file_before) now ≤ all_unread (f.size file_before) before
  pub keeps : KeepsFile f file_before file_now

-- Lanes were made ready, each by what it loads alone; where a read failed, loading stopped there.
pub record MakesReady {F T E : Type 0} (f : file.Ghosts F) (file_before file_now : F) (before now : List Lane) (result : Result T E) : Type 0 where
  pub loads : LoadsLanes f file_before file_now before now
  pub ready : OnOk result (All IsReady now)
  pub each : (i : ℕ) (d : Lane) → i < length before
      → IsReadied (f.bytes file_before) (slice_index_or before i d) (slice_index_or now i d)
  pub cause : HasCause (f.faults file_before) (f.faults file_now) result
  pub reads_done : OnOk result (f.reads file_now ≤ raised (f.reads file_before)
      (all_unread (f.size file_before) before - all_unread (f.size file_before) now))
  pub stops : OnErr result (HasStopped (f.size file_before) before now (f.reads file_before) (f.reads file_now))
