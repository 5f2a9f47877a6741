-- The new files of a split, and how it ends.
-- Source: trace-cmd-split(1).
use Rattle.std.specs.Prelude.{◌≡◌, ◌≤◌, ℕ, ◌+◌, List, [], ◌∷◌, take, Option, Some, None, Result, Ok, Err}
use Rattle.trace_base.specs.declared.part.Part.{Part}
use Rattle.trace_outside.specs.Seen.{FolderSeen}
use Rattle.trace_outside.specs.Causes.{raised}
use Rattle.dat_header.specs.declared.header.Header.{Header}
use Rattle.subpage.specs.Arrangement.{Keyed}
use Rattle.subpage.specs.declared.cut_place.CutPlace.{CutPlace}
use Rattle.time_merge.specs.declared.ending.End.{End}
use Rattle.time_merge.specs.declared.ending.End.TheVariants as code
use Rattle.time_merge.specs.declared.ending.IoFault.{IoFault}
use Rattle.time_merge.specs.declared.ending.IoFault.TheVariants as fault
use Rattle.split_pieces.specs.declared.rules.Rules.{Rules}
use Rattle.split_pieces.specs.Cuts.{bad_reached, file_items}
use Rattle.split_tool.specs.Names.{file_name}
use Rattle.split_tool.specs.NewFile.{ReadsBack, file_text}
use Rattle.split_tool.specs.Counted.{lists_of}
use Rattle.new_files.specs.Requested.{AskedAll, AskedFirst, names_of}
use Rattle.new_files.specs.Stored.{NewFile, FilesStored, FirstFilesStored}

-- the files of these items, numbered from n on; their tables tell numbers modulo 2^64
abbrev pub files_from : Header → List ℕ → ℕ → List (List Keyed) → List NewFile
files_from header base n [] = []
files_from header base n (xs ∷ more) =
    record { name = file_name base n; content = file_text header (lists_of header.cpus xs) } ∷ files_from header base (n + 1) more

-- the files that a split makes by these rules of the selected processors' parts, named by this base
abbrev pub new_files : Rules → List ℕ → Header → List ℕ → List (ℕ × Part) → List NewFile
new_files rules base header bytes parts = files_from header base 1 (file_items rules header.layout bytes parts)

abbrev pub end_by : Option CutPlace → End
end_by None = code.Done
end_by (Some bad) = code.Malformed bad

-- and how it ends
abbrev pub end_of : Rules → Header → List ℕ → List (ℕ × Part) → End
end_of rules header bytes parts = end_by (bad_reached rules header.layout bytes parts)

-- what a split that was to make these files and end so did to a folder, by its answer: after a fault the first few files stand
abbrev pub IsSplit : List NewFile → End → FolderSeen → FolderSeen → Result End IoFault → Type 0
IsSplit news end before now (Err fault.Read) = (count : ℕ) × FilesStored (take count news) before.files now.files
IsSplit news end before now (Err fault.Write) = FirstFilesStored news before.counts now.counts before.files now.files
IsSplit news end before now (Ok answer) = (answer ≡ end) × FilesStored news before.files now.files

-- a file is created for each new one, after a fault for at most so many
abbrev pub Creates : ℕ → ℕ → ℕ → Result End IoFault → Type 0
Creates count before now (Ok answer) = now ≡ raised before count
Creates count before now (Err kind) = now ≤ raised before count

-- their names were asked for, after a fault the first few of them
abbrev pub AsksFor : List NewFile → List (List ℕ) → List (List ℕ) → Result End IoFault → Type 0
AsksFor news before now (Ok answer) = AskedAll (names_of news) before now
AsksFor news before now (Err kind) = AskedFirst (names_of news) before now

-- how many files could not be finished: none, and after a fault of writing at most one
abbrev pub LeavesUnfinished : ℕ → ℕ → Result End IoFault → Type 0
LeavesUnfinished before now (Ok answer) = now ≡ before
LeavesUnfinished before now (Err fault.Read) = now ≡ before
LeavesUnfinished before now (Err fault.Write) = (before ≤ now) × (now ≤ raised before 1)

-- each of these files reads back to just its items, processor by processor
abbrev pub ReadBack : Header → List (List Keyed) → List NewFile → Type 0
ReadBack header [] [] = Unit {0}
ReadBack header [] (file ∷ files) = ⊥
ReadBack header (xs ∷ items) [] = ⊥
ReadBack header (xs ∷ items) (file ∷ files) =
    ReadsBack header (lists_of header.cpus xs) file.content × ReadBack header items files
