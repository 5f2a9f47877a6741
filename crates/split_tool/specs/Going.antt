-- Lists whose lanes go through items.
use Rattle.std.specs.Prelude.{◌≡◌, ℕ, ◌+◌, ◌-◌, ◌<◌, ◌≤◌, All, List, length, slice_index_or}
use Rattle.trace_outside.specs.declared.outside.File as file
use Rattle.trace_outside.specs.Causes.{raised}
use Rattle.trace_outside.specs.Keeping.{KeepsFile}
use Rattle.page_pool.specs.declared.lane.Lane.{Lane}
use Rattle.event_cursor.specs.Standing.{Stands}
use Rattle.time_merge.specs.Advancing.{Advances}
use Rattle.time_merge.specs.LaneRows.{IsReady, parts_of, rows_of}
use Rattle.time_merge.specs.Reads.{all_reading, all_unread}
use Rattle.split_passes.specs.Begun.{IsBegun}
use Rattle.split_passes.specs.ListSeen.{ListSeen}
use Rattle.split_passes.specs.Measures.{SkipsOver}
use Rattle.split_tool.specs.Lists.{EachList, lanes_of}

-- a list keeps its lanes, each of which went on or stayed as it was
pub record ListGoes (before now : ListSeen) : Type 0 where
  pub layout : now.layout ≡ before.layout
  pub parts : parts_of now.all ≡ parts_of before.all
  pub advance : (i : ℕ) (d : Lane) → i < length before.all → Advances (slice_index_or before.all i d) (slice_index_or now.all i d)

-- Each list did, and each sub-buffer was read once.
pub record ListsGo {F : Type 0} (f : file.Ghosts F) (file_before file_now : F) (before now : List ListSeen) : Type 0 where
  pub long : length now ≡ length before
  pub each : EachList ListGoes before now
  pub reads : f.reads file_now ≤ raised (f.reads file_before)
      (all_unread (f.size file_before) (lanes_of before) - all_unread (f.size file_before) (lanes_of now)
      + all_reading (f.size file_before) (lanes_of now))
  pub unread : all_unread (f.size file_before) (lanes_of now) ≤ all_unread (f.size file_before) (lanes_of before)
  pub keeps : KeepsFile f file_before file_now

-- a list is ready for its next piece
pub record ListBegun (list : ListSeen) : Type 0 where
  pub begun : IsBegun list
  pub fronts_long : length list.fronts ≡ length list.all
  pub tallies_long : length list.tallies ≡ length list.all

-- a list's piece was measured
pub record ListDone (before now : ListSeen) : Type 0 where
  pub fronts : now.fronts ≡ before.fronts
  pub ready : All IsReady now.all
  pub long : length now.tallies ≡ length now.all
  pub over : SkipsOver before.all before.tallies now.tallies

-- lanes that were loaded have left what they had
pub record StaysToCome (file : List ℕ) (before now : List Lane) : Type 0 where
  pub rows : rows_of file now ≡ rows_of file before
  pub stands : All (Stands file) before → All (Stands file) now

-- a list keeps all but where its lanes stand
pub record KeepsList (before now : ListSeen) : Type 0 where
  pub same : now ≡ record before { all = now.all }
  pub parts : parts_of now.all ≡ parts_of before.all
