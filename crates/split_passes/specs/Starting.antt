-- Lanes of a list that passed over the items before a start.
use Rattle.std.specs.Prelude.{◌≡◌, ℕ, List, Option}
use Rattle.std.specs.List.{All}
use Rattle.page_pool.specs.declared.lane.Lane.{Lane}
use Rattle.event_cursor.specs.Standing.{Stands}
use Rattle.time_merge.specs.LaneRows.{to_come}
use Rattle.word_values.specs.declared.moment.Moment.{Moment}
use Rattle.split_pieces.specs.Pieces.{from_start}

-- they have left what stands not before the start
pub record ListStarted (file : List ℕ) (start : Option Moment) (before now : List Lane) : Type 0 where
  pub stands : All (Stands file) now
  pub come : to_come file now ≡ from_start start (to_come file before)
