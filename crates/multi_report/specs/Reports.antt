-- What a report of several files writes, and how it ends.
-- Source: trace-cmd-report(1), which puts a file's name before each of its lines where there are several.
use Rattle.std.specs.Prelude.{◌≡◌, ◌<◌, ℕ, ◌++◌, List, [], ◌∷◌, codes, length, map, take, Option, Some, None, option_map, unwrap_or, slice_get, slice_index_or, Result, Ok, Err}
use Rattle.std.specs.Fmt.{decimal}
use Rattle.trace_outside.specs.Causes.{Rose}
use Rattle.trace_outside.specs.Writing.{Gained, GainedPrefix}
use Rattle.trace_outside.specs.Pieces.{text_of}
use Rattle.subpage.specs.Arrangement.{Keyed}
use Rattle.multi_report.specs.declared.report.FilesEnd.{FilesEnd}
use Rattle.multi_report.specs.declared.report.FilesEnd.TheVariants as code
use Rattle.multi_report.specs.declared.report.FilesFault.{FilesFault}
use Rattle.multi_report.specs.declared.report.FilesFault.TheVariants as fault
use Rattle.subpage.specs.CutPlaces.{cut_at}
use Rattle.multi_report.specs.Order.{ShownFile, FileItem, FileCut, cut_of_files, reached}
use Rattle.multi_report.specs.Sources.{SourceView, IsSame, ReadsItsParts}

-- a file's name, a colon and a space
abbrev pub label : List ℕ → List ℕ
label name = name ++ codes ": "

-- the first line of a file
abbrev pub head_line : ShownFile → List ℕ
head_line file = label file.name ++ (codes "cpus=" ++ (decimal file.cpus ++ codes "\n"))

-- a line with the file's name before it; an empty line stays empty
abbrev pub labelled : List ℕ → List ℕ → List ℕ
labelled name [] = []
labelled name (b ∷ bs) = label name ++ (b ∷ bs)

-- the line of an item of a file
abbrev pub line_of : ShownFile → Keyed → List ℕ
line_of file x = labelled file.name (file.text x.cpu x.item).bytes

-- the line of an item of one of the files
abbrev pub line_in : List ShownFile → FileItem → List ℕ
line_in files x = unwrap_or (option_map (λ file. line_of file x.item) (slice_get files x.file)) []

unfoldable pub lines : List ShownFile → List FileItem → List (List ℕ)
lines files items = map (line_in files) items

-- the pieces between which a fault of reading may end a report: the files' first lines, and those of the reached items
abbrev pub pieces : List ShownFile → List (List ℕ)
pieces files = map head_line files ++ lines files (reached files)

-- Done and Malformed: all pieces were written, and there is no cut, or the least one is this. Read: the first of them.
-- Write: a prefix of their text.
abbrev pub IsEnded : List (List ℕ) → Option FileCut → Option (List ℕ) → Option (List ℕ) → Result FilesEnd FilesFault → Type 0
IsEnded whole cut old new (Ok code.Done) = Gained old new (text_of whole) × (cut ≡ None)
IsEnded whole cut old new (Ok (code.Malformed source place)) =
    Gained old new (text_of whole)
    × ((key : Option ℕ) × (cut ≡ Some (record { file = source; cut = cut_at key place })))
IsEnded whole cut old new (Err (fault.Read file)) = (count : ℕ) × Gained old new (text_of (take count whole))
IsEnded whole cut old new (Err fault.Write) = GainedPrefix old new (text_of whole)

-- what a report of files writes after what was written before
abbrev pub IsFilesReport : List ShownFile → Option (List ℕ) → Option (List ℕ) → Result FilesEnd FilesFault → Type 0
IsFilesReport files old new end = IsEnded (pieces files) (cut_of_files files) old new end

-- They are the same files in the same order, and their counts are as a report may leave them.
pub record AreSame (before now : List SourceView) : Type 0 where
  pub count : length now ≡ length before
  pub each : (i : ℕ) (d : SourceView) → i < length before → IsSame (slice_index_or before i d) (slice_index_or now i d)

-- no more of each file was read than the parts of its lanes have
abbrev pub AllReadTheirParts : List SourceView → List SourceView → Type 0
AllReadTheirParts before now =
    (i : ℕ) (d : SourceView) → i < length before → ReadsItsParts (slice_index_or before i d) (slice_index_or now i d)

-- a fault of reading is one of the file that is told
abbrev pub ReadRose : FilesFault → List SourceView → List SourceView → Type 0
ReadRose (fault.Read file) before now =
    (file < length before) × ((d : SourceView) → Rose (slice_index_or before file d).faults (slice_index_or now file d).faults)
ReadRose fault.Write before now = Unit {0}

-- a fault of writing is told only where the count rose
abbrev pub WriteRose : FilesFault → ℕ → ℕ → Type 0
WriteRose (fault.Read file) before now = Unit {0}
WriteRose fault.Write before now = Rose before now
