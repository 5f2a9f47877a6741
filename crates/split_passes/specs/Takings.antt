-- A run of a lane's items that a piece takes at once.
use Rattle.std.specs.Prelude.{◌≡◌, ℕ, ◌+◌, ◌<◌, ◌≤◌, ◌⊎◌, All, false, List, ◌++◌, length, slice_index_or, slice_set, Option, Some, unwrap_or}
use Rattle.trace_base.specs.declared.layout.Layout.{Layout}
use Rattle.subpage.specs.ItemData.{ItemData, last_time}
use Rattle.subpage.specs.Arrangement.{Keyed}
use Rattle.subpage.specs.declared.mark.Mark.{Mark}
use Rattle.subpage.specs.declared.run.RunLimits.{RunLimits}
use Rattle.subpage.specs.Run.{run_bytes, time_at, IsRunTo}
use Rattle.page_pool.specs.declared.lane.Lane.{Lane}
use Rattle.page_pool.specs.Keeping.{KeepsLane, stepping}
use Rattle.page_write.specs.PageBytes.{area_len, data_text}
use Rattle.page_write.specs.Passes.{IsPageCount}
use Rattle.event_cursor.specs.Stepping.{IsSteppedOver}
use Rattle.event_cursor.specs.Standing.{Stands}
use Rattle.time_merge.specs.LaneRows.{to_come}
use Rattle.time_merge.specs.Turns.{keyed_used}
use Rattle.word_values.specs.declared.moment.Moment.{Moment}
use Rattle.split_pieces.specs.declared.gauge.Gauge.{Gauge}
use Rattle.split_pieces.specs.Allowing.{after_events, IsEventUpTo, TakesItems}
use Rattle.split_passes.specs.declared.taking.FoundRun.{FoundRun}
use Rattle.split_passes.specs.declared.tally.Tally.{Tally}
use Rattle.split_passes.specs.Choices.{past_end, past_key, Counting}
use Rattle.split_passes.specs.Tallies.{IsTally}

-- Within these limits a piece takes all events of a run.
pub record LimitsAllow (layout : Layout) (turn : ℕ) (stop : Option Moment) (gauge : Gauge) (tally : Tally) (limits : RunLimits) : Type 0 where
  pub until : limits.until ≤ turn
  pub takes : (xs : List Keyed) → All (IsEventUpTo limits.until) xs → length xs ≤ limits.events
      → TakesItems gauge (after_events gauge (length xs)) xs
  pub inside : (key : ℕ) → key ≤ limits.until → past_key stop key ≡ false
  pub room : (xs : List ItemData) → (count : IsPageCount layout tally.pages xs)
      → length (data_text layout count.held) + limits.bytes ≡ area_len layout

-- a run of plain records stands at the lane's place
abbrev pub HasRun : Lane → FoundRun → Type 0
HasRun lane found = IsRunTo lane.layout lane.page lane.cursor.mark found.next found.count × (0 < found.count)

-- It goes no further than the limits.
pub record RunWithin (lane : Lane) (limits : RunLimits) (next : Mark) (count : ℕ) : Type 0 where
  pub run : IsRunTo lane.layout lane.page lane.cursor.mark next count
  pub some : 0 < count
  pub few : count ≤ limits.events
  pub fits : length (run_bytes lane.page lane.cursor.mark next) ≤ limits.bytes
  pub in_time : time_at next ≤ limits.until

-- A run at a lane's place within them, which follows the item that was counted last.
pub record RunAllowed (lane : Lane) (limits : RunLimits) (tally : Tally) (next : Mark) (count : ℕ) : Type 0 where
  pub run : IsRunTo lane.layout lane.page lane.cursor.mark next count
  pub some : 0 < count
  pub few : count ≤ limits.events
  pub fits : length (run_bytes lane.page lane.cursor.mark next) ≤ limits.bytes
  pub in_time : time_at next ≤ limits.until
  pub high : unwrap_or lane.cursor.high 0 ≤ limits.until
  pub last : (xs : List ItemData) → (count : IsPageCount lane.layout tally.pages xs) → last_time count.held ≡ Some (time_at lane.cursor.mark)

-- Items with keys up to this one are taken: the gauge goes on after them, and their processor's tally counts them.
pub record TakesRun (stop : Option Moment) (turn : ℕ) (before now : Counting) (lane after : Lane) : Type 0 where
  pub items : List ItemData
  pub some : 0 < length items
  pub over : IsSteppedOver items lane after
  pub up_to : All (λ x. x.key ≤ turn) (keyed_used lane items)
  pub inside : All (λ x. past_end stop x ≡ false) (keyed_used lane items)
  pub takes : TakesItems before.gauge now.gauge (keyed_used lane items)
  pub tallied : (xs : List ItemData) → IsTally lane.layout before.tally xs → IsTally lane.layout now.tally (xs ++ items)

pub record TakesNone (before now : Counting) (lane after : Lane) : Type 0 where
  pub still : after ≡ lane
  pub gauge : now.gauge ≡ before.gauge
  pub tally : now.tally ≡ before.tally

abbrev pub IsRunTaken : Option Moment → ℕ → Counting → Counting → Lane → Lane → Type 0
IsRunTaken stop turn before now lane after = TakesNone before now lane after ⊎ TakesRun stop turn before now lane after

-- A run of one of several lanes, whose items come before those of all others.
pub record TakesTurn (stop : Option Moment) (before now : Counting) (lanes : List Lane) (i : ℕ) (lane after : Lane) : Type 0 where
  pub turn : ℕ
  pub run : TakesRun stop turn before now lane after
  pub come : (bytes : List ℕ) → All (Stands bytes) lanes
      → to_come bytes lanes ≡ keyed_used lane run.items ++ to_come bytes (slice_set lanes i after)

-- it is taken, if there is one, and the lane goes on in its sub-buffer
pub record IsTurnTaken (stop : Option Moment) (before now : Counting) (lanes : List Lane) (i : ℕ) (d : Lane) (lanes_now : List Lane) : Type 0 where
  pub lane : Lane
  pub lanes_are : lanes_now ≡ slice_set lanes i lane
  pub keeps : KeepsLane stepping (slice_index_or lanes i d) lane
  pub forward : (slice_index_or lanes i d).cursor.at ≤ lane.cursor.at
  pub taken : TakesNone before now (slice_index_or lanes i d) lane ⊎ TakesTurn stop before now lanes i (slice_index_or lanes i d) lane
