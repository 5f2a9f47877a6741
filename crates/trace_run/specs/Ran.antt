-- All that is said of a run over a folder and an output, by what its words ask for.
use Rattle.std.specs.Prelude.{Result, Ok, Err, ℕ, length, ◌≡◌, ◌≢◌, ◌⊎◌, ◌+◌}
use Rattle.trace_outside.specs.Causes.{Rose}
use Rattle.run_endings.specs.declared.status.Status.{Status}
use Rattle.run_endings.specs.declared.status.Status.TheVariants.{Usage, ReadFault, NoMemory}
use Rattle.run_words.specs.declared.usage.UsageFault.{UsageFault}
use Rattle.run_endings.specs.Ending.{KeepsOut}
use Rattle.trace_run.specs.Input.{ReadsNeeded, GathersCalls}
use Rattle.run_endings.specs.Progress.{BehindHeader, progress}
use Rattle.run_words.specs.Job.{Job, OnFile, OnFiles, SelfTest, Restore, About}
use Rattle.trace_run.specs.Meaning.{meaning_read, target_read, target_of}
use Rattle.trace_run.specs.Requested.{Asks}
use Rattle.run_endings.specs.Outside.{Outside}
use Rattle.run_endings.specs.Ran.{JobRan}

-- That a read failed shows in the folder's count. A self-test, and what the program tells of itself, read no file.
abbrev pub Unread : Result Job UsageFault → Outside → Outside → Type 0
Unread (Ok (OnFile command)) before now = Rose before.folder.counts.reading now.folder.counts.reading
Unread (Ok (OnFiles words)) before now = Rose before.folder.counts.reading now.folder.counts.reading
Unread (Ok (SelfTest words)) before now = ⊥
Unread (Ok (Restore words)) before now = Rose before.folder.counts.reading now.folder.counts.reading
Unread (Ok (About topic)) before now = ⊥
Unread (Err fault) before now = ⊥

-- Usage is answered just where the words or a filter of theirs have no reading, unless there is no memory to read them.
-- Nothing is touched then; a split leaves the output alone, a report of several files changes no file, a self-test and what the
-- program tells of itself leave the folder alone, and a restore the output, and after a fault of reading all files too.
abbrev pub KeepsOff : Result Job UsageFault → Status → Outside → Outside → Type 0
KeepsOff (Ok (OnFile command)) status before now = (status ≢ Usage) × KeepsOut (target_of command) before.out now.out
KeepsOff (Ok (OnFiles words)) status before now = (status ≢ Usage) × (now.folder.files ≡ before.folder.files)
KeepsOff (Ok (SelfTest words)) status before now = (status ≢ Usage) × (now.folder ≡ before.folder)
KeepsOff (Ok (Restore words)) status before now = (status ≢ Usage) × (now.out ≡ before.out) × (status ≡ ReadFault → now.folder.files ≡ before.folder.files)
KeepsOff (Ok (About topic)) status before now = (status ≢ Usage) × (now.folder ≡ before.folder)
KeepsOff (Err fault) status before now = ((status ≡ Usage) ⊎ (status ≡ NoMemory)) × (now ≡ before)

-- how many files a run opens at most: the input, or all of them
abbrev pub most_opened : Result Job UsageFault → ℕ
most_opened (Ok (OnFile command)) = 1
most_opened (Ok (OnFiles words)) = length words.more + 1
most_opened (Ok (SelfTest words)) = 0
most_opened (Ok (Restore words)) = length words.files + 1
most_opened (Ok (About topic)) = 0
most_opened (Err fault) = 0

-- How the run ended, and what it opened and closed; what it left alone; the names that it asked for; what it read; and that calls
-- are gathered before the first byte.
pub record Ran (read : Result Job UsageFault) (status : Status) (before now : Outside) : Type 0 where
  pub job : JobRan (target_read read) (Unread read before now) (meaning_read read before.folder.files) (most_opened read) status before now
  pub usage : KeepsOff read status before now
  pub requested : Asks read (meaning_read read before.folder.files) before.folder.requested now.folder.requested
  pub reads : BehindHeader status (ReadsNeeded read before.folder.files (progress before) (progress now))
  pub gathers : GathersCalls read before.folder.files status before.out now.out
