-- What the words of a command line ask a run for, by what it works on.
-- Source: trace-cmd(1).
use Rattle.std.specs.Prelude.{Result, Ok, Err, ◌≡◌, ◌≢◌, List, [], ◌∷◌, ℕ, MatchResult}
use Rattle.trace_args.specs.declared.fault.WordFault.{WordFault}
use Rattle.trace_args.specs.declared.fault.WordKind.TheVariants as kind
use Rattle.trace_args.specs.declared.topic.Topic.{Topic}
use Rattle.trace_args.specs.Command as asked
use Rattle.trace_args.specs.Command.{CommandData, ReportData, DumpData, SelfData, SplitData, RestoreData, report_view, dump_view, self_view, split_view, restore_view}
use Rattle.trace_args.specs.Reading.{reading}
use Rattle.run_words.specs.declared.job.FileCommand.{FileCommand as CodeCommand}
use Rattle.run_words.specs.declared.job.FileCommand.TheVariants as code_command
use Rattle.run_words.specs.declared.job.Job.{Job as CodeJob}
use Rattle.run_words.specs.declared.job.Job.TheVariants as code_job

-- a command on one file
pub data FileCommand : Type 0 where
  Report : ReportData → FileCommand
  Dump : DumpData → FileCommand
  Split : SplitData → FileCommand

-- a command on one file, a report of several, a self-test, a restore, or what the program tells of itself
pub data Job : Type 0 where
  OnFile : FileCommand → Job
  OnFiles : ReportData → Job
  SelfTest : SelfData → Job
  Restore : RestoreData → Job
  About : Topic → Job

-- a report, by the inputs after its first
abbrev pub report_by_more : List (List ℕ) → ReportData → Job
report_by_more [] report = OnFile (Report report)
report_by_more (name ∷ names) report = OnFiles report

abbrev pub report_job : ReportData → Job
report_job report = report_by_more report.more report

-- the job that a reading asks for
abbrev pub job_read : Result CommandData WordFault → Result Job WordFault
job_read (Ok (asked.Report report)) = Ok (report_job report)
job_read (Ok (asked.Dump dump)) = Ok (OnFile (Dump dump))
job_read (Ok (asked.Split split)) = Ok (OnFile (Split split))
job_read (Ok (asked.SelfTest words)) = Ok (SelfTest words)
job_read (Ok (asked.Restore words)) = Ok (Restore words)
job_read (Ok (asked.About topic)) = Ok (About topic)
job_read (Err wrong) = Err wrong

-- the job that words ask for, or their first fault
unfoldable pub job_of : List (List ℕ) → Result Job WordFault
job_of words = job_read (reading words)

abbrev pub command_view : CodeCommand → FileCommand
command_view (code_command.Report report) = Report (report_view report)
command_view (code_command.Dump dump) = Dump (dump_view dump)
command_view (code_command.Split split) = Split (split_view split)

abbrev pub job_view : CodeJob → Job
job_view (code_job.OnFile command) = OnFile (command_view command)
job_view (code_job.OnFiles report) = OnFiles (report_view report)
job_view (code_job.SelfTest words) = SelfTest (self_view words)
job_view (code_job.Restore words) = Restore (restore_view words)
job_view (code_job.About topic) = About topic

-- an answer is the job; the only other is that there was no memory
abbrev pub IsJob : List (List ℕ) → Result CodeJob WordFault → Type 0
IsJob words result = MatchResult result
    (λ job. job_of words ≡ Ok (job_view job))
    (λ wrong. wrong.kind ≢ kind.Memory → job_of words ≡ Err wrong)
