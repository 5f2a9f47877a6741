-- What the words ask for, with the filters of a report read. All words are read first, and then each filter in its
-- place; the first that is none is the fault. Source: trace-cmd-report(1), `-F` and `-v`.
use Rattle.std.specs.Prelude.{ℕ, List, [], Result, Ok, Err}
use Rattle.std.specs.Result.{result_unwrap_or}
use Rattle.trace_args.specs.Command.{FilterData}
use Rattle.trace_args.specs.declared.fault.WordFault.{WordFault}
use Rattle.filter_lang.specs.Filter as lang
use Rattle.filter_lang.specs.Reading as filter_text
use Rattle.filter_truth.specs.Selection.{UseData}
use Rattle.run_words.specs.Job.{FileCommand, Report, Dump, Split, Job, OnFile, OnFiles, SelfTest, Restore, About, job_of}
use Rattle.run_words.specs.Readings.{readings}
use Rattle.run_words.specs.declared.usage.UsageFault.{UsageFault}
use Rattle.run_words.specs.declared.usage.UsageFault.TheVariants.{Word, Filter}

-- one filter
abbrev pub use_by : FilterData → Result lang.FilterData ℕ → Result UseData UsageFault
use_by w (Ok filter) = Ok (record { hide = w.hide; filter = filter })
use_by w (Err place) = Err (Filter w.word place)

abbrev pub use_read : FilterData → Result UseData UsageFault
use_read w = use_by w (filter_text.reading w.text)

-- all filters of some words, or the fault of the first that is none
abbrev pub filters_read : List FilterData → Result (List UseData) UsageFault
filters_read ws = readings use_read ws

-- the filters among a command's words
abbrev pub command_filters : FileCommand → List FilterData
command_filters (Report words) = words.filters
command_filters (Dump words) = []
command_filters (Split words) = []

abbrev pub job_filters : Job → List FilterData
job_filters (OnFile command) = command_filters command
job_filters (OnFiles words) = words.filters
job_filters (SelfTest words) = []
job_filters (Restore words) = []
job_filters (About topic) = []

-- the filters of some words, where all have a reading
unfoldable pub uses_in : List FilterData → List UseData
uses_in ws = result_unwrap_or (filters_read ws) []

abbrev pub with_filters : Job → Result (List UseData) UsageFault → Result Job UsageFault
with_filters job (Ok uses) = Ok job
with_filters job (Err fault) = Err fault

abbrev pub asked_by : Result Job WordFault → Result Job UsageFault
asked_by (Ok job) = with_filters job (filters_read (job_filters job))
asked_by (Err fault) = Err (Word fault)

-- what the words ask for
unfoldable pub asked : List (List ℕ) → Result Job UsageFault
asked words = asked_by (job_of words)
