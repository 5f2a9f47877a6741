-- How a report of one file ended, and how much it read, by what was seen of the file and of the output before and after.
use Rattle.std.specs.Prelude.{Option, ◌≡◌, ◌≤◌, ℕ, Bool, List, length, IfSome}
use Rattle.std.specs.Option.{option_map}
use Rattle.trace_base.specs.declared.part.Part.{Part}
use Rattle.trace_outside.specs.declared.outside.File as file
use Rattle.trace_outside.specs.declared.outside.Sink as sink
use Rattle.trace_outside.specs.Causes.{Rose, raised}
use Rattle.dat_header.specs.declared.header.Header.{Header}
use Rattle.dat_header.specs.declared.header.Body.{Body}
use Rattle.subpage.specs.Arrangement.{CpusRise}
use Rattle.report_print.specs.ContextData.{ContextData}
use Rattle.trace_args.specs.Command.{ReportData}
use Rattle.file_report.specs.declared.report.Recording.{Recording}
use Rattle.file_report.specs.declared.report.Shown.{Shown}
use Rattle.run_endings.specs.declared.status.Status.{Status}
use Rattle.report_context.specs.Context.{context_of}
use Rattle.run_endings.specs.Ending.{IfNoMemory, Prints}
use Rattle.run_endings.specs.Progress.{Progress, progress_at}
use Rattle.file_report.specs.Due.{ReadsDue, body_share, parts_share, report_share}
use Rattle.run_endings.specs.Meaning.{Meaning}
use Rattle.file_report.specs.Meaning.{body_report, report_as, report_by}
use Rattle.run_endings.specs.Outside.{SinkSeen, sink_seen}
use Rattle.file_report.specs.Report.{Events, body_events, events_on, recording_of, listed_events, unless_calls, body_calls, listed_calls}
use Rattle.run_endings.specs.Selection.{chosen, set_or_all}
use Rattle.run_endings.specs.Output.{GathersFirst}

-- What a report is to do: what it means of the file's bytes, how many of them it needs after the header, the events of which it
-- reads no more than their lines need, if any, and whether it shows calls.
pub record Task : Type 0 where
  pub means : List ℕ → Meaning
  pub share : ℕ
  pub events : List ℕ → Option Events
  pub calls : Bool

-- the whole report of a file of this size
abbrev pub file_task : ReportData → Header → ℕ → Task
file_task words header size = record {
  means = report_by words.list words header;
  share = report_share words.list words header size;
  events = listed_events words.list words header;
  calls = listed_calls words.list words.calls header.body;
}

-- where the words ask for no list
abbrev pub body_task : ReportData → Header → Body → ℕ → Task
body_task words header body size = record {
  means = body_report words header body;
  share = body_share words header body size;
  events = body_events words header body;
  calls = body_calls words.calls body;
}

-- of these parts with their processors, by whether calls are shown in place of the events, and the latencies after them
abbrev pub parts_task : Bool → Bool → ContextData → List (ℕ × Part) → Recording → Task
parts_task calls wakeups given parts recording = record {
  means = λ bytes. report_as calls wakeups (events_on given parts recording bytes);
  share = parts_share wakeups parts;
  events = λ bytes. unless_calls calls wakeups (events_on given parts recording bytes);
  calls = calls;
}

-- of the parts of the processors that the words choose
abbrev pub chosen_task : ReportData → Header → List Part → Task
chosen_task words header parts =
    parts_task words.calls words.wakeups (context_of words header) (chosen (set_or_all words.cpus) parts) (recording_of header)

-- the events of what is shown of a file with these bytes
abbrev pub events_shown : Shown → List ℕ → Events
events_shown shown bytes = events_on shown.form.now.context shown.parts.now shown.recording bytes

abbrev pub shown_task : ReportData → Shown → Task
shown_task words shown = parts_task words.calls words.wakeups shown.form.now.context shown.parts.now shown.recording

-- parts that are shown are those of processors in order
pub record IsShown (shown : Shown) : Type 0 where
  pub few : length shown.parts.now ≤ 1024
  pub rise : CpusRise shown.parts.now

-- what is seen at one moment: how often the file failed, how many of its bytes were read, and the output
pub record AtWork : Type 0 where
  pub faults : ℕ
  pub reads : ℕ
  pub out : SinkSeen

abbrev pub at_work : {I O : Type 0} → file.Ghosts I → sink.Ghosts O → I → O → AtWork
at_work i o file out = record { faults = i.faults file; reads = i.reads file; out = sink_seen o out }

abbrev pub progress_of : AtWork → Progress
progress_of seen = progress_at seen.out.written seen.reads

-- a report with this task, of a file that tells these bytes, ended like a run, and read no more than it needs; where it found no
-- memory, none of its reads had failed
pub record Reported (task : Task) (told : Option (List ℕ)) (status : Status) (before now : AtWork) : Type 0 where
  pub prints : Prints (Rose before.faults now.faults) (option_map task.means told) status before.out now.out
  pub reads : now.reads ≤ raised before.reads task.share
  pub due : IfSome told (λ bytes. IfSome (task.events bytes) (λ events. ReadsDue events 0 (progress_of before) (progress_of now)))
  pub gathers : GathersFirst task.calls status before.out now.out
  pub kept : IfNoMemory status (now.faults ≡ before.faults)
