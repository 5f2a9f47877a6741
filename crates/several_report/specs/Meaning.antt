-- What a report of several files means.
-- Source: trace-cmd-report(1), `-i`.
use Rattle.std.specs.Prelude.{Option, Result, Ok, Err, List, map}
use Rattle.std.specs.Option.{option_map}
use Rattle.trace_outside.specs.Names.{NamedFiles}
use Rattle.run_endings.specs.declared.status.Status.{Status}
use Rattle.trace_args.specs.Command.{ReportData}
use Rattle.multi_report.specs.Order as several
use Rattle.multi_report.specs.Order.{FileCut, cut_of_files}
use Rattle.multi_report.specs.Reports as several_text
use Rattle.several_report.specs.Inputs.{NamedInput, WrongInput, shown_in, inputs_in, names_in}
use Rattle.run_endings.specs.Meaning.{Meaning, prints, only, ended}

-- a report of several files ends at the first malformed sub-buffer of all of them
abbrev pub ended_in : Option FileCut → Status
ended_in cut = ended (option_map (λ c. c.cut) cut)

-- first a line for each file, and then the lines of the reached items of all, in the order in which these happened
abbrev pub files_report : List several.ShownFile → Meaning
files_report files = prints (several_text.pieces files) (ended_in (cut_of_files files))

-- the report of inputs that have headers, or the answer for the first that is wrong
abbrev pub inputs_mean : ReportData → Result (List NamedInput) WrongInput → Meaning
inputs_mean words (Ok inputs) = files_report (map (shown_in words) inputs)
inputs_mean words (Err wrong) = only wrong.status

abbrev pub files_meaning : ReportData → NamedFiles → Meaning
files_meaning words files = inputs_mean words (inputs_in files (names_in words))
