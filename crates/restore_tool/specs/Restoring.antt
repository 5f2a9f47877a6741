-- What making a file leaves of a folder.
use Rattle.std.specs.Prelude.{Option, Some, Result, Ok, Err, ◌≡◌, ◌≤◌, ℕ, List, map, IfSome}
use Rattle.std.specs.FinMap.{insert}
use Rattle.trace_outside.specs.declared.counts.Counts.{Counts}
use Rattle.trace_outside.specs.Names.{NamedFiles}
use Rattle.trace_outside.specs.Causes.{raised}
use Rattle.trace_outside.specs.Seen.{FileSeen}
use Rattle.dat_header.specs.declared.header.Header.{Header}
use Rattle.new_files.specs.Stored.{IsUnmade}
use Rattle.restore_tool.specs.declared.copying.DataFault.{DataFault}
use Rattle.restore_tool.specs.declared.copying.DataFault.TheVariants as code
use Rattle.restore_tool.specs.Copying.{AllTold, text_of}
use Rattle.restore_tool.specs.Restored.{restored}

-- Where all was done the name has the restored bytes, if the data files tell theirs, and every other name is as before. Read: all
-- is as before. Write: all is as before, but for this one name where finishing it failed.
abbrev pub Leaves : Header → List FileSeen → List ℕ → Counts → Counts → Option NamedFiles → Option NamedFiles → Result Unit DataFault → Type 0
Leaves header files name counts now_counts old new (Ok done) =
    AllTold files → IfSome old (λ named. new ≡ Some (insert named name (restored header (map text_of files))))
Leaves header files name counts now_counts old new (Err (code.Read file)) = new ≡ old
Leaves header files name counts now_counts old new (Err code.Write) = IsUnmade counts.unfinished now_counts.unfinished name old new

-- one file is created, after a fault of writing at most one
abbrev pub CreatesOne : ℕ → ℕ → Result Unit DataFault → Type 0
CreatesOne before now (Err code.Write) = now ≤ raised before 1
CreatesOne before now result = now ≡ raised before 1

-- how many files could not be finished: none, and after a fault of writing at most one
abbrev pub LeavesUnfinished : ℕ → ℕ → Result Unit DataFault → Type 0
LeavesUnfinished before now (Err code.Write) = (before ≤ now) × (now ≤ raised before 1)
LeavesUnfinished before now result = now ≡ before
