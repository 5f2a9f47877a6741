-- One new file on its way.
use Rattle.std.specs.Prelude.{◌≡◌, ◌<◌, ◌≤◌, ◌⊎◌, ℕ, List, [], ◌∷◌, ◌++◌, length, slice_index_or, IfErr, IfSome, MatchResult, Option, Result, Some, Ok, Err}
use Rattle.std.specs.List.{All}
use Rattle.std.specs.FinMap.{insert}
use Rattle.trace_base.specs.declared.part.Part.{Part}
use Rattle.trace_outside.specs.declared.counts.Counts.{Counts}
use Rattle.trace_outside.specs.Causes.{Rose, raised}
use Rattle.trace_outside.specs.Names.{NamedFiles}
use Rattle.trace_outside.specs.Seen.{FolderSeen}
use Rattle.trace_outside.specs.Writing.{Gained}
use Rattle.dat_header.specs.declared.header.Header.{Header}
use Rattle.subpage.specs.ItemData.{ItemData}
use Rattle.subpage.specs.Arrangement.{Keyed}
use Rattle.page_pool.specs.declared.lane.Lane.{Lane}
use Rattle.page_write.specs.Placed.{data_of}
use Rattle.event_cursor.specs.Standing.{Stands}
use Rattle.time_merge.specs.LaneRows.{rows_of}
use Rattle.time_merge.specs.declared.ending.End.TheVariants as code
use Rattle.time_merge.specs.declared.ending.IoFault.TheVariants as fault
use Rattle.split_pieces.specs.declared.rules.Rules.{Rules}
use Rattle.split_passes.specs.AllAgain.{AreFronts, TellsHeld, owns}
use Rattle.split_passes.specs.Outputs.{LanesOutput}
use Rattle.split_passes.specs.ListSeen.{ListSeen}
use Rattle.new_files.specs.Requested.{AskedAll}
use Rattle.new_files.specs.Stored.{IsUnmade, KeepsCounts}
use Rattle.split_tool.specs.NewFile.{file_text, front_text, table_of}
use Rattle.split_tool.specs.declared.lists.Ends.{Ends}
use Rattle.split_tool.specs.declared.unmade.Unmade.{Unmade}
use Rattle.split_tool.specs.declared.unmade.Unmade.TheVariants as unmade
use Rattle.split_tool.specs.Counted.{lists_of}
use Rattle.split_tool.specs.Lists.{lanes_of}
use Rattle.split_tool.specs.Measured.{FileLeft, taken_of}
use Rattle.split_tool.specs.NewFiles.{LeavesUnfinished}
use Rattle.split_tool.specs.Unmaking.{ending_of}

-- the bytes of the next file
abbrev pub next_text : Header → List ℕ → Rules → List Lane → List ℕ
next_text header file rules lanes = file_text header (lists_of header.cpus (taken_of file rules lanes))

abbrev pub OwnFronts : List ℕ → ListSeen → List Keyed → Type 0
OwnFronts file list taken = AreFronts file list.all list.fronts list.tallies (owns list.all taken)

-- these items stand between the places where the piece begins and the lanes, each lane's own
abbrev pub AreFrontsOf : List ℕ → List ListSeen → List Keyed → Type 0
AreFrontsOf file lists taken =
    (k : ℕ) (e : ListSeen) → k < length lists → OwnFronts file (slice_index_or lists k e) taken

-- a file was measured, and its table is known
pub record Prepared (header : Header) (file : List ℕ) (rules : Rules) (first now : List ListSeen) (table : List Part) (ends : Ends) : Type 0 where
  pub left : FileLeft file rules (lanes_of first) (lanes_of now) ends
  pub fronts_are : AreFrontsOf file now (taken_of file rules (lanes_of first))
  pub table_is : table ≡ table_of header (lists_of header.cpus (taken_of file rules (lanes_of first)))
  pub bytes : data_of header.layout (owns (lanes_of now) (taken_of file rules (lanes_of first)))
      ≡ data_of header.layout (lists_of header.cpus (taken_of file rules (lanes_of first)))

-- a file was written
pub record Written (header : Header) (file : List ℕ) (table : List Part) (lists : List (List ItemData)) (before now : LanesOutput) : Type 0 where
  pub stands : All (Stands file) now.lanes
  pub rows : rows_of file now.lanes ≡ rows_of file before.lanes
  pub gained : Gained before.written now.written (front_text header table ++ data_of header.layout lists)

abbrev pub IsWritten : {T : Type 0} → Header → List ℕ → List Part → List (List ItemData) → LanesOutput → LanesOutput → Result T Unmade → Type 0
IsWritten header file table lists before now (Ok done) = Written header file table lists before now
IsWritten header file table lists before now (Err (unmade.Malformed cut)) = ⊥
IsWritten header file table lists before now (Err (unmade.Fault kind)) = Unit {0}

-- what a new file is made by
pub record FilePlan : Type 0 where
  pub header : Header
  pub rules : Rules
  pub name : List ℕ

-- the lanes beside the files of the folder, at one moment
pub record LanesFiles : Type 0 where
  pub lanes : List Lane
  pub files : Option NamedFiles

-- The new file was finished: under its name stands the next file of what the lanes had left, and the rest is left.
pub record Made (plan : FilePlan) (file : List ℕ) (before now : LanesFiles) (ends : Ends) : Type 0 where
  pub left : FileLeft file plan.rules before.lanes now.lanes ends
  pub stored : IfSome before.files (λ files. now.files ≡ Some (insert files plan.name (next_text plan.header file plan.rules before.lanes)))

-- Over an input with these bytes: the new file was finished, or a call of the outside failed.
abbrev pub IsMade : FilePlan → List ℕ → LanesFiles → LanesFiles → Result Ends Unmade → Type 0
IsMade plan file before now (Ok ends) = Made plan file before now ends
IsMade plan file before now (Err (unmade.Malformed cut)) = ⊥
IsMade plan file before now (Err (unmade.Fault kind)) = Unit {0}

-- some file of this name was finished, and every other name is as before
abbrev pub IsFinished : List ℕ → Option NamedFiles → Option NamedFiles → Type 0
IsFinished name old new = (content : List ℕ) × IfSome old (λ files. new ≡ Some (insert files name content))

-- What making one file leaves, whatever the bytes of the input are: it is finished, or it is cut off and every name is as it
-- was, unless finishing it failed. A malformed sub-buffer that is told is the one that a lane holds.
abbrev pub LeavesFile : List ℕ → List Lane → FolderSeen → FolderSeen → Result Ends Unmade → Type 0
LeavesFile name lanes before now (Ok ends) = IsFinished name before.files now.files
LeavesFile name lanes before now (Err (unmade.Malformed cut)) =
    (now.files ≡ before.files) × TellsHeld lanes (Ok (code.Malformed cut))
LeavesFile name lanes before now (Err (unmade.Fault fault.Read)) = now.files ≡ before.files
LeavesFile name lanes before now (Err (unmade.Fault fault.Write)) =
    IsUnmade before.counts.unfinished now.counts.unfinished name before.files now.files

-- its name was asked for, unless a read failed before
abbrev pub AsksForIt : List ℕ → List (List ℕ) → List (List ℕ) → Result Ends Unmade → Type 0
AsksForIt name before now (Err (unmade.Fault fault.Read)) = (now ≡ before) ⊎ AskedAll (name ∷ []) before now
AsksForIt name before now result = AskedAll (name ∷ []) before now

-- What making one file does to the counts of a folder: a file is created, or after a fault maybe none, and only a fault of
-- writing leaves one unfinished.
pub record CountsOne (before now : Counts) (result : Result Ends Unmade) : Type 0 where
  pub keeps : KeepsCounts before now
  pub created : MatchResult result (λ _. now.created ≡ raised before.created 1) (λ _. now.created ≤ raised before.created 1)
  pub unfinished : MatchResult result (λ _. now.unfinished ≡ before.unfinished) (λ kind. LeavesUnfinished before.unfinished now.unfinished (ending_of kind))
  pub writing : IfErr result (λ kind. kind ≡ unmade.Fault fault.Write → Rose before.writing now.writing)
