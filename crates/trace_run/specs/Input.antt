-- What a job needs of its files, and that a run reads no more of them.
use Rattle.std.specs.Prelude.{Option, None, Result, Ok, Err, ◌≡◌, ◌+◌, ◌≤◌, ℕ, List, length, IfOk, IfSome, Bool, false}
use Rattle.trace_outside.specs.Names.{NamedFiles}
use Rattle.trace_outside.specs.Causes.{raised}
use Rattle.dat_header.specs.declared.header.Header.{Header}
use Rattle.run_endings.specs.declared.status.Status.{Status}
use Rattle.run_words.specs.declared.usage.UsageFault.{UsageFault}
use Rattle.run_words.specs.Job.{FileCommand, Report, Dump, Split, Job, OnFile, OnFiles, SelfTest, Restore, About}
use Rattle.several_report.specs.Inputs.{NamedInput, input_named, FilesRead}
use Rattle.trace_run.specs.Meaning.{input_of}
use Rattle.file_report.specs.Report.{Events, listed_events, listed_calls}
use Rattle.file_report.specs.Due.{report_share, ReadsDue}
use Rattle.split_run.specs.Split.{split_share}
use Rattle.restore_run.specs.Restore.{RestoreReads}
use Rattle.run_endings.specs.Progress.{Progress}
use Rattle.run_endings.specs.Outside.{SinkSeen}
use Rattle.run_endings.specs.Output.{GathersFirst}

-- how many bytes after the header a command needs, of a file of this size
abbrev pub share : FileCommand → Header → ℕ → ℕ
share (Report words) header size = report_share words.list words header size
share (Dump words) header size = 0
share (Split words) header size = split_share words.cpu header.body

-- the events that a command reports, if any
abbrev pub events_of : FileCommand → Header → List ℕ → Option Events
events_of (Report words) header bytes = listed_events words.list words header bytes
events_of (Dump words) header bytes = None
events_of (Split words) header bytes = None

-- whether a command shows calls
abbrev pub shows_calls : FileCommand → Header → Bool
shows_calls (Report words) header = listed_calls words.list words.calls header.body
shows_calls (Dump words) header = false
shows_calls (Split words) header = false

-- no more bytes of an input were read than its header and what the command needs, nor by a report of events more than are due by
-- what it wrote
pub record ReadsNoMore (command : FileCommand) (input : NamedInput) (before now : Progress) : Type 0 where
  pub needed : now.reads ≤ raised before.reads (input.header.end + share command input.header (length input.bytes))
  pub due : IfSome (events_of command input.header input.bytes) (λ events. ReadsDue events input.header.end before now)

-- No more was read than a job needs: the input of a command; of several inputs the header and the parts that are shown of each; the
-- header of a partial file, and each data file once; and else nothing.
abbrev pub ReadsNeeded : Result Job UsageFault → Option NamedFiles → Progress → Progress → Type 0
ReadsNeeded (Ok (OnFile command)) told before now =
    IfSome told (λ files. IfOk (input_named files (input_of command)) (λ input. ReadsNoMore command input before now))
ReadsNeeded (Ok (OnFiles words)) told before now = IfSome told (λ files. FilesRead words files before.reads now.reads)
ReadsNeeded (Ok (SelfTest words)) told before now = now.reads ≡ before.reads
ReadsNeeded (Ok (Restore words)) told before now = IfSome told (λ files. RestoreReads words files before.reads now.reads)
ReadsNeeded (Ok (About topic)) told before now = now.reads ≡ before.reads
ReadsNeeded (Err fault) told before now = now.reads ≡ before.reads

-- A command that shows calls gathers all of them before the first byte, so a fault of reading left the output as it was.
abbrev pub GathersCalls : Result Job UsageFault → Option NamedFiles → Status → SinkSeen → SinkSeen → Type 0
GathersCalls (Ok (OnFile command)) told status before now =
    IfSome told (λ files. IfOk (input_named files (input_of command)) (λ input. GathersFirst (shows_calls command input.header) status before now))
GathersCalls read told status before now = Unit {0}
