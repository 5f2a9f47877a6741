-- What a restoring is to make, by the names that it is given and the files that stand under them.
-- Source: trace-cmd-restore(1).
use Rattle.std.specs.Prelude.{◌≡◌, ◌≤◌, ℕ, List, [], ◌∷◌, length, map, Option, Some, None, Result, Ok, Err}
use Rattle.std.specs.FinMap.{get, insert}
use Rattle.trace_base.specs.OptionSteps.{◌>>=◌}
use Rattle.trace_outside.specs.declared.counts.Counts.{Counts}
use Rattle.trace_outside.specs.Causes.{raised}
use Rattle.trace_outside.specs.Names.{NamedFiles}
use Rattle.dat_options.specs.declared.fault.OpenFault.{OpenFault}
use Rattle.dat_header.specs.declared.header.Header.{Header}
use Rattle.dat_header.specs.Partial.{partial_of}
use Rattle.new_files.specs.Stored.{IsUnmade, NewFile}
use Rattle.restore_tool.specs.declared.named.Names.{Names}
use Rattle.restore_tool.specs.declared.named.RestoreFault.{RestoreFault}
use Rattle.restore_tool.specs.declared.named.RestoreFault.TheVariants as code
use Rattle.restore_tool.specs.Restored.{for_processors, restored}

-- the names, as plain data
pub record NamesData : Type 0 where
  pub partial : List ℕ
  pub files : List (List ℕ)
  pub output : List ℕ

abbrev pub names_view : Names → NamesData
names_view names = record { partial = names.partial.now; files = map (λ name. name.now) names.files.now; output = names.output.now }

-- what there is to do
pub data Task : Type 0 where
  -- nothing, since a file is not there
  missing : Task
  -- nothing, since the partial file has no header
  refused : OpenFault → Task
  -- just this new file
  made : NewFile → Task

-- the bytes of the data files, where all of them are there
abbrev pub texts_of : NamedFiles → List (List ℕ) → Option (List (List ℕ))
texts_of named [] = Some []
texts_of named (name ∷ names) = do
  text ← get named name
  texts ← texts_of named names
  Some (text ∷ texts)

abbrev pub with_texts : Header → List ℕ → Option (List (List ℕ)) → Task
with_texts header output None = missing
with_texts header output (Some texts) = made (record { name = output; content = restored (for_processors header (length texts)) texts })

abbrev pub with_header : NamedFiles → NamesData → Result Header OpenFault → Task
with_header named names (Err fault) = refused fault
with_header named names (Ok header) = with_texts header names.output (texts_of named names.files)

abbrev pub with_partial : NamedFiles → NamesData → Option (List ℕ) → Task
with_partial named names None = missing
with_partial named names (Some bytes) = with_header named names (partial_of bytes)

-- the partial file is asked for first, then the data files
abbrev pub task_of : NamedFiles → NamesData → Task
task_of named names = with_partial named names (get named names.partial)

-- the one new file stands under its name, and every other name is as before
abbrev pub IsMade : Task → NamedFiles → Option NamedFiles → Type 0
IsMade missing named new = ⊥
IsMade (refused fault) named new = ⊥
IsMade (made file) named new = new ≡ Some (insert named file.name file.content)

-- how many files a task makes
abbrev pub files_in : Task → ℕ
files_in missing = 0
files_in (refused fault) = 0
files_in (made file) = 1

-- there is a file of this name to make
abbrev pub IsToMake : Task → List ℕ → Type 0
IsToMake missing output = ⊥
IsToMake (refused fault) output = ⊥
IsToMake (made file) output = file.name ≡ output

-- What was done of a task, by the result: all of it, or nothing. Only where finishing the file failed nothing is said of its name.
-- Nothing is created where there is nothing to make.
abbrev pub IsDone : Task → List ℕ → Counts → Counts → NamedFiles → Option NamedFiles → Result Unit RestoreFault → Type 0
IsDone task output counts now_counts named new (Ok done) = IsMade task named new
IsDone task output counts now_counts named new (Err (code.Refused fault)) = (task ≡ refused fault) × (new ≡ Some named)
IsDone task output counts now_counts named new (Err (code.Read source)) = (new ≡ Some named) × (now_counts.created ≤ raised counts.created (files_in task))
IsDone task output counts now_counts named new (Err code.Write) = IsToMake task output × IsUnmade counts.unfinished now_counts.unfinished output (Some named) new
IsDone task output counts now_counts named new (Err code.NoMemory) = new ≡ Some named
