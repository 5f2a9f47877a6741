-- Lanes after the items before the start.
use Rattle.std.specs.Prelude.{◌≡◌, ℕ, List, map}
use Rattle.std.specs.List.{All}
use Rattle.page_pool.specs.declared.lane.Lane.{Lane}
use Rattle.event_cursor.specs.Standing.{Stands}
use Rattle.time_merge.specs.LaneRows.{rows_of}
use Rattle.split_pieces.specs.declared.rules.Rules.{Rules}
use Rattle.split_pieces.specs.Pieces.{from_start}
use Rattle.split_tool.specs.Lists.{groups, come_of}

-- those of every list have left what stands not before the start
pub record Started (file : List ℕ) (rules : Rules) (before now : List Lane) : Type 0 where
  pub stands : All (Stands file) now
  pub come : map come_of (groups rules (rows_of file now))
      ≡ map (λ rows. from_start rules.start (come_of rows)) (groups rules (rows_of file before))
