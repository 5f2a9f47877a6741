-- How a run ends that is a restore.
use Rattle.run_endings.specs.declared.status.Status.{Status}
use Rattle.run_endings.specs.declared.status.Status.TheVariants.{Done, Refused, ReadFault, WriteFault, NoMemory}
use Rattle.restore_tool.specs.declared.named.RestoreFault.{RestoreFault}
use Rattle.restore_tool.specs.declared.named.RestoreFault.TheVariants as code
use Rattle.std.specs.Prelude.{Result, Ok, Err, ℕ, List, [], ◌∷◌}
use Rattle.trace_outside.specs.Names.{NamedFiles}
use Rattle.trace_args.specs.Command.{RestoreData}
use Rattle.restore_tool.specs.Asked.{asked_of}
use Rattle.restore_tool.specs.Reads.{ReadsOnce}
use Rattle.restore_tool.specs.Meaning.{NamesData, Task, missing, refused, made, task_of}
use Rattle.run_endings.specs.Meaning.{Meaning, only}

abbrev pub status_of_restore : Result Unit RestoreFault → Status
status_of_restore (Ok done) = Done
status_of_restore (Err (code.Refused fault)) = Refused fault
status_of_restore (Err (code.Read source)) = ReadFault
status_of_restore (Err code.Write) = WriteFault
status_of_restore (Err code.NoMemory) = NoMemory

-- nothing is printed: one file is made, unless a file is missing or the partial one has no header
abbrev pub task_means : Task → Meaning
task_means missing = only ReadFault
task_means (refused fault) = only (Refused fault)
task_means (made file) = record { pieces = []; status = Done; files = file ∷ [] }

abbrev pub names_of : RestoreData → NamesData
names_of words = record { partial = words.input; files = words.files; output = words.output }

-- the names that it asks for: those of the files that it reads, and then that of the new one
abbrev pub restore_asks : RestoreData → List (List ℕ)
restore_asks words = asked_of (names_of words)

-- it reads no more than the header of the partial file, and each data file once
abbrev pub RestoreReads : RestoreData → NamedFiles → ℕ → ℕ → Type 0
RestoreReads words files before now = ReadsOnce files (names_of words) before now

abbrev pub restore_meaning : RestoreData → NamedFiles → Meaning
restore_meaning words files = task_means (task_of files (names_of words))
