-- What the part of a run did that has an open file.
use Rattle.std.specs.Prelude.{Option, Some, ℕ, List}
use Rattle.new_files.specs.Stored.{KeepsCounts}
use Rattle.run_endings.specs.declared.status.Status.{Status}
use Rattle.run_endings.specs.Ending.{Ended, KeepsOut}
use Rattle.run_words.specs.Job.{FileCommand}
use Rattle.run_endings.specs.Meaning.{Meaning}
use Rattle.run_endings.specs.Requested.{AsksFor}
use Rattle.several_report.specs.Inputs.{input_found}
use Rattle.trace_run.specs.Meaning.{input_means, input_of, target_of}
use Rattle.trace_run.specs.Requested.{new_names}
use Rattle.run_endings.specs.Outside.{Outside}

-- what a command means of an input with these bytes
abbrev pub bytes_mean : FileCommand → List ℕ → Meaning
bytes_mean command bytes = input_means command (input_found (input_of command) (Some bytes))

-- It ended like a run, of the folder's counts none but those of faults and of files created moved, and a split left the output as
-- it was. No names but those of new files were asked for.
pub record Worked (command : FileCommand) (unread : Type 0) (means : Option Meaning) (status : Status) (before now : Outside) : Type 0 where
  pub ended : Ended (target_of command) unread means status before now
  pub counts : KeepsCounts before.folder.counts now.folder.counts
  pub requested : AsksFor (new_names command) means before.folder.requested now.folder.requested
  pub out : KeepsOut (target_of command) before.out now.out
