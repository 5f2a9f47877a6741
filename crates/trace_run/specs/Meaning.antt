-- What a run means, from its words and the files alone.
use Rattle.std.specs.Prelude.{Option, Result, Ok, Err, Some, ℕ, List, [], ◌∷◌}
use Rattle.std.specs.Option.{option_map}
use Rattle.trace_outside.specs.Names.{NamedFiles}
use Rattle.dat_header.specs.declared.header.Header.{Header}
use Rattle.run_endings.specs.declared.status.Status.TheVariants.{Done, Usage}
use Rattle.run_words.specs.declared.usage.UsageFault.{UsageFault}
use Rattle.trace_args.specs.declared.topic.Topic.{Topic}
use Rattle.trace_args.specs.Topics.{topic_text}
use Rattle.trace_args.specs.Command.{DumpData, SelfData}
use Rattle.run_words.specs.Job.{FileCommand, Report, Dump, Split, Job, OnFile, OnFiles, SelfTest, Restore, About}
use Rattle.trace_run.specs.Selftest.{self_test_line}
use Rattle.dump_tool.specs.Dump.{dump_text}
use Rattle.run_endings.specs.Meaning.{Target, Meaning, prints, only, on_nothing, on_out, on_folder}
use Rattle.file_report.specs.Meaning.{report_by}
use Rattle.split_run.specs.Split.{split_by}
use Rattle.restore_run.specs.Restore.{restore_meaning}
use Rattle.several_report.specs.Inputs.{NamedInput, WrongInput, input_named}
use Rattle.several_report.specs.Meaning.{files_meaning}

-- the header's sections
abbrev pub dump_of : DumpData → Header → Meaning
dump_of words header = prints (dump_text words.input words.sections header ∷ []) Done

-- the line of a self-test
abbrev pub self_test : SelfData → Meaning
self_test words = prints (self_test_line words ∷ []) Done

-- what the program tells of itself
abbrev pub topic_means : Topic → Meaning
topic_means topic = prints (topic_text topic ∷ []) Done

-- what a command writes to
abbrev pub target_of : FileCommand → Target
target_of (Report words) = on_out
target_of (Dump words) = on_out
target_of (Split words) = on_folder

-- a command on a file with this header and these bytes
abbrev pub header_means : FileCommand → Header → List ℕ → Meaning
header_means (Report words) header bytes = report_by words.list words header bytes
header_means (Dump words) header bytes = dump_of words header
header_means (Split words) header bytes = split_by words header bytes

-- the same, or the answer for an input that is missing or has no header
abbrev pub input_means : FileCommand → Result NamedInput WrongInput → Meaning
input_means command (Ok input) = header_means command input.header input.bytes
input_means command (Err wrong) = only wrong.status

-- the name of the input
abbrev pub input_of : FileCommand → List ℕ
input_of (Report words) = words.input
input_of (Dump words) = words.input
input_of (Split words) = words.input

-- a command, of the files of the folder
abbrev pub command_meaning : FileCommand → NamedFiles → Meaning
command_meaning command files = input_means command (input_named files (input_of command))

abbrev pub job_target : Job → Target
job_target (OnFile command) = target_of command
job_target (OnFiles words) = on_out
job_target (SelfTest words) = on_out
job_target (Restore words) = on_folder
job_target (About topic) = on_out

abbrev pub target_read : Result Job UsageFault → Target
target_read (Ok job) = job_target job
target_read (Err fault) = on_nothing

-- What a run means, by what its words ask for. A command on files and a restore need a folder that tells its files.
abbrev pub meaning_read : Result Job UsageFault → Option NamedFiles → Option Meaning
meaning_read (Ok (OnFile command)) told = option_map (command_meaning command) told
meaning_read (Ok (OnFiles words)) told = option_map (files_meaning words) told
meaning_read (Ok (SelfTest words)) told = Some (self_test words)
meaning_read (Ok (Restore words)) told = option_map (restore_meaning words) told
meaning_read (Ok (About topic)) told = Some (topic_means topic)
meaning_read (Err fault) told = Some (only Usage)
