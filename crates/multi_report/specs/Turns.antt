-- A report of files on its way, turn after turn.
use Rattle.std.specs.Prelude.{◌≡◌, ◌<◌, ◌≤◌, ◌++◌, ℕ, List, length, map, slice_index_or, Option, Some, None, Result, Ok, Err}
use Rattle.std.specs.List.{All}
use Rattle.tournament_tree.specs.declared.slot_key.SlotKey.{SlotKey}
use Rattle.trace_outside.specs.Pending.{Holds}
use Rattle.trace_outside.specs.Pieces.{text_of}
use Rattle.multi_report.specs.declared.report.FilesEnd.{FilesEnd}
use Rattle.multi_report.specs.declared.report.FilesFault.{FilesFault}
use Rattle.multi_report.specs.Order.{cut_of_files}
use Rattle.multi_report.specs.Sources.{SourceView, IsKnown, IsPrepared, due, shown_of, next_key, to_come_of}
use Rattle.multi_report.specs.Reports.{IsEnded, lines}

-- what is left of the files, as lines
abbrev pub lines_left : List SourceView → List (List ℕ)
lines_left sources = lines (map shown_of sources) (to_come_of sources)

-- since `before` the first pieces of a whole are on their way, and the rest is to come
pub record Going (before : Option (List ℕ)) (whole : List (List ℕ)) (written : Option (List ℕ)) (waiting : List ℕ) (rest : List (List ℕ)) : Type 0 where
  pub done : List (List ℕ)
  pub holds : Holds before written waiting (text_of done)
  pub parted : whole ≡ done ++ rest

-- a report at one moment: its files, the tree's keys of what comes next of each, what the output has, and what waits for it
pub record ReportState : Type 0 where
  pub sources : List SourceView
  pub keys : List SlotKey
  pub written : Option (List ℕ)
  pub waiting : List ℕ

abbrev pub state_of : List SourceView → List SlotKey → Option (List ℕ) → List ℕ → ReportState
state_of sources keys written waiting = record { sources = sources; keys = keys; written = written; waiting = waiting }

-- A report that is to write these pieces after what the output had goes on: all files are known, the keys are theirs, and what
-- they have left is what is to come.
pub record IsUnderway (before : Option (List ℕ)) (whole : List (List ℕ)) (state : ReportState) : Type 0 where
  pub known : All IsKnown state.sources
  pub keys_are : state.keys ≡ map next_key state.sources
  pub going : Going before whole state.written state.waiting (lines_left state.sources)

-- it is on its way, or a fault stopped it
abbrev pub HasBegun : Option (List ℕ) → List (List ℕ) → ReportState → Result Unit FilesFault → Type 0
HasBegun before whole state (Ok begun) = IsUnderway before whole state
HasBegun before whole state (Err why) = IsEnded whole (cut_of_files (map shown_of state.sources)) before state.written (Err why)

-- it goes on, it ended, or a fault stopped it
abbrev pub IsTurned : Option (List ℕ) → List (List ℕ) → ReportState → Result (Option FilesEnd) FilesFault → Type 0
IsTurned before whole state (Ok None) = IsUnderway before whole state
IsTurned before whole state (Ok (Some end)) = IsEnded whole (cut_of_files (map shown_of state.sources)) before state.written (Ok end)
IsTurned before whole state (Err why) = IsEnded whole (cut_of_files (map shown_of state.sources)) before state.written (Err why)

-- The files are ready to be gone on with, and what was read of them is not to be read again.
pub record AreReadied (before now : List SourceView) : Type 0 where
  pub prepared : All IsPrepared now
  pub due : (i : ℕ) (d : SourceView) → i < length before → due (slice_index_or now i d) ≤ due (slice_index_or before i d)
