-- Data files that are copied to a sink, one after another.
use Rattle.std.specs.Prelude.{Option, Result, Ok, Err, ◌≡◌, ◌<◌, ◌≤◌, OnOk, ℕ, List, [], ◌++◌, length, map, unwrap_or, IfSome, IsSome, slice_index_or}
use Rattle.std.specs.List.{All}
use Rattle.trace_outside.specs.Causes.{Rose, raised}
use Rattle.trace_outside.specs.Writing.{Gained}
use Rattle.trace_outside.specs.declared.outside.File as file
use Rattle.trace_outside.specs.Seen.{FileSeen, file_seen}
use Rattle.restore_tool.specs.declared.copying.DataFault.{DataFault}
use Rattle.restore_tool.specs.declared.copying.DataFault.TheVariants as code

abbrev pub files_seen : {F : Type 0} → file.Ghosts F → List F → List FileSeen
files_seen f files = map (file_seen f) files

-- the bytes of a file that tells them
abbrev pub text_of : FileSeen → List ℕ
text_of file = unwrap_or file.bytes []

-- all of them tell their bytes
abbrev pub AllTold : List FileSeen → Type 0
AllTold files = All (λ file. IsSome file.bytes) files

-- the same file, whose count of faults did not fall, and of which at most each byte was read once
pub record Keeps (before now : FileSeen) : Type 0 where
  pub bytes : now.bytes ≡ before.bytes
  pub size : now.size ≡ before.size
  pub faults : before.faults ≤ now.faults
  pub reads : now.reads ≤ raised before.reads before.size

abbrev pub AllKeep : List FileSeen → List FileSeen → Type 0
AllKeep before now = (i : ℕ) (d : FileSeen) → i < length before → Keeps (slice_index_or before i d) (slice_index_or now i d)

-- a piece and the whole file after it were written
abbrev pub IsOneCopied : {T E : Type 0} → List ℕ → FileSeen → Option (List ℕ) → Option (List ℕ) → Result T E → Type 0
IsOneCopied front file old new result = OnOk result (IfSome file.bytes (λ bytes. Gained old new (front ++ bytes)))

-- all of the text was written; after a fault nothing is said of what was
abbrev pub CopiesAll : List ℕ → Option (List ℕ) → Option (List ℕ) → Result Unit DataFault → Type 0
CopiesAll text old new result = OnOk result (Gained old new text)

-- a fault is told only where its count rose: that of this very file, or of what is written
abbrev pub IsCaused : Result Unit DataFault → List FileSeen → List FileSeen → ℕ → ℕ → Type 0
IsCaused (Ok done) before now faults faults_now = Unit {0}
IsCaused (Err (code.Read file)) before now faults faults_now =
    (file < length before) × ((d : FileSeen) → Rose (slice_index_or before file d).faults (slice_index_or now file d).faults)
IsCaused (Err code.Write) before now faults faults_now = Rose faults faults_now
