-- What the words of a job that has a reading keep: the number of a split's unit is at least 1, the names of its new files
-- begin with no more bytes than words allow, from 1 to 64 threads form the lines of a report, a report has at most 8 inputs, and a
-- restore has at most 256 data files.
-- Source: trace-cmd-split(1); the limits of 4,096 bytes, of 64 threads, of 8 inputs and of 256 data files are this project's own.
use Rattle.std.specs.Prelude.{◌≤◌, ℕ, length}
use Rattle.split_pieces.specs.Pieces.{IsUnit}
use Rattle.trace_args.specs.Command.{SplitData}
use Rattle.run_words.specs.Job.{FileCommand, Report, Dump, Split, Job, OnFile, OnFiles, SelfTest, Restore, About}

pub record IsAllowedSplit (words : SplitData) : Type 0 where
  pub unit : IsUnit words.unit
  pub base : length words.base ≤ 4096

-- so many threads
abbrev pub IsWorkers : ℕ → Type 0
IsWorkers count = (1 ≤ count) × (count ≤ 64)

abbrev pub IsAllowed : FileCommand → Type 0
IsAllowed (Report words) = IsWorkers words.workers
IsAllowed (Dump words) = Unit {0}
IsAllowed (Split words) = IsAllowedSplit words

abbrev pub IsAllowedJob : Job → Type 0
IsAllowedJob (OnFile command) = IsAllowed command
IsAllowedJob (OnFiles words) = length words.more ≤ 7
IsAllowedJob (SelfTest words) = IsWorkers words.workers
IsAllowedJob (Restore words) = length words.files ≤ 256
IsAllowedJob (About topic) = Unit {0}
