-- The command that settings ask for.
-- Source: trace-cmd-report(1), trace-cmd-split(1), trace-cmd-dump(1) and trace-cmd-restore(1), `OPTIONS`.
use Rattle.std.specs.Prelude.{ℕ, Bool, true, false, ◌&&◌, ◌||◌, not, List, [], ◌∷◌, drop, map, Option, option_map, unwrap_or, codes, if◌then◌else◌}
use Rattle.std.specs.List.{list_any, find, cons_option}
use Rattle.std.specs.Option.{option_and_then, option_map_or, option_or}
use Rattle.word_values.specs.declared.section.Section.{Section}
use Rattle.word_values.specs.declared.section.Section.TheVariants as section
use Rattle.word_values.specs.declared.listing.Listing.{Listing}
use Rattle.word_values.specs.declared.moment.Moment.{Moment}
use Rattle.word_values.specs.declared.piece.PieceUnit.{PieceUnit}
use Rattle.word_values.specs.declared.piece.PieceUnit.TheVariants.{All}
use Rattle.word_values.specs.declared.piece.PieceOption.{PieceOption}
use Rattle.word_values.specs.declared.piece.PieceOption.TheVariants.{Seconds, Millis, Micros, Events}
use Rattle.word_values.specs.Listings.{listings}
use Rattle.word_values.specs.Sections.{sections}
use Rattle.word_values.specs.CpuList.{cpu_set, cpu_number}
use Rattle.word_values.specs.Number.{worker_count, seed_number, event_count, piece_count}
use Rattle.word_values.specs.Moments.{moment_of}
use Rattle.word_values.specs.Pieces.{piece}
use Rattle.line_options.specs.declared.options.LineOptions.{LineOptions}
use Rattle.trace_args.specs.declared.tool.Tool.{Tool}
use Rattle.trace_args.specs.declared.tool.Tool.TheVariants as tool
use Rattle.trace_args.specs.declared.option.FlagOption.TheVariants as flag
use Rattle.trace_args.specs.declared.option.ValuedOption.{ValuedOption}
use Rattle.trace_args.specs.declared.option.ValuedOption.TheVariants as valued
use Rattle.trace_args.specs.declared.topic.Topic.TheVariants.{HelpOf}
use Rattle.trace_args.specs.Command.{CommandData, Report, Dump, SelfTest, Split, Restore, About, ReportData, DumpData, SelfData, SplitData, RestoreData, FilterData}
use Rattle.trace_args.specs.Setting.{Text, Setting}
use Rattle.trace_args.specs.Given.{asks_help, sets, value_for, value_of, value_at, texts_of, is_set}

-- the value of an option, or else another text
abbrev pub text_or : ValuedOption → List ℕ → List Setting → List ℕ
text_or option other settings = option_map_or (λ text. text.bytes) (value_of option settings) other

abbrev pub input_of : List Setting → List ℕ
input_of settings = text_or valued.Input (codes "trace.dat") settings

-- the first input of a report, and the inputs after it
abbrev pub first_input : List Setting → List ℕ
first_input settings = text_or valued.Source (input_of settings) settings

abbrev pub more_inputs : List Setting → List (List ℕ)
more_inputs settings = drop 1 (texts_of valued.Source settings)

abbrev pub filter_data : Bool → Text → FilterData
filter_data hide filter = record { word = filter.word; hide = hide; text = filter.bytes }

-- the filters of these settings; whether they hide, which all after a `-v` do
abbrev pub filters_from : Bool → List Setting → List FilterData
filters_from hide [] = []
filters_from hide (setting ∷ later) =
    cons_option (option_map (filter_data hide) (value_for valued.Filter setting)) (filters_from (hide || sets flag.Hide setting) later)

-- the list that is printed in place of the events, where one is
abbrev pub listing_of : List Setting → Option Listing
listing_of settings = find (λ listing. is_set (flag.Listing listing) settings) listings

-- the processors that are selected, where not all are
abbrev pub cpus_of : List Setting → Option (List Bool)
cpus_of settings = option_and_then (λ text. cpu_set text.bytes) (value_of valued.Cpus settings)

abbrev pub workers_of : List Setting → ℕ
workers_of settings =
    unwrap_or (option_and_then (λ text. worker_count text.bytes) (value_of valued.Workers settings)) 1

-- what is shown of each line of a report
abbrev pub line_options_of : List Setting → LineOptions
line_options_of settings =
    record {
      full = is_set flag.FullTime settings;
      diff = is_set flag.Differences settings;
      latency = is_set flag.Latency settings;
      raw = is_set flag.Raw settings;
      no_hard = is_set flag.NoHard settings;
      no_soft = is_set flag.NoSoft settings;
    }

abbrev pub report_of : List Setting → ReportData
report_of settings =
    record {
      input = first_input settings;
      more = more_inputs settings;
      filters = filters_from false settings;
      line = line_options_of settings;
      raw_events = texts_of valued.RawEvent settings;
      calls = is_set flag.Calls settings;
      list = listing_of settings;
      wakeups = is_set flag.Wakeups settings;
      cpus = cpus_of settings;
      workers = workers_of settings;
    }

-- `--all` means every section but this one
abbrev pub is_in_all : Section → Bool
is_in_all section.Validate = false
is_in_all _ = true

-- the section that is printed where no option names one
abbrev pub is_default : Section → Bool
is_default section.Summary = true
is_default _ = false

abbrev pub names_section : List Setting → Section → Bool
names_section settings section = is_set (flag.Section section) settings

-- whether an option names a section, or all
unfoldable pub names_any : List Setting → Bool
names_any settings = is_set flag.All settings || list_any (names_section settings) sections

abbrev pub is_printed : List Setting → Section → Bool
is_printed settings section =
    names_section settings section || ((is_set flag.All settings && is_in_all section) || (not (names_any settings) && is_default section))

abbrev pub dump_of : List Setting → DumpData
dump_of settings =
    record { input = input_of settings; sections = map (is_printed settings) sections }

-- the numbers of a self-test, in their order
abbrev pub seed_of : List Setting → ℕ
seed_of settings =
    unwrap_or (option_and_then (λ text. seed_number text.bytes) (value_at 0 valued.TestNumber settings)) 0

abbrev pub events_of : List Setting → ℕ
events_of settings =
    unwrap_or (option_and_then (λ text. event_count text.bytes) (value_at 1 valued.TestNumber settings)) 0

abbrev pub self_of : List Setting → SelfData
self_of settings =
    record { seed = seed_of settings; events = events_of settings; workers = workers_of settings }

-- what the names of new files begin with
abbrev pub base_of : List Setting → List ℕ
base_of settings = text_or valued.Base (input_of settings) settings

-- the size of a piece by this option
abbrev pub piece_by : List Setting → PieceOption → Option PieceUnit
piece_by settings option =
    option_map (piece option) (option_and_then (λ text. piece_count text.bytes) (value_of (valued.Piece option) settings))

abbrev pub unit_of : List Setting → PieceUnit
unit_of settings =
    let timed = option_or (option_or (piece_by settings Seconds) (piece_by settings Millis)) (piece_by settings Micros) in
    unwrap_or (option_or timed (piece_by settings Events)) All

-- the processor that is taken, where not all are
abbrev pub cpu_of : List Setting → Option ℕ
cpu_of settings = option_and_then (λ text. cpu_number text.bytes) (value_of valued.Cpu settings)

-- the start, and after it the end
abbrev pub bound_of : ℕ → List Setting → Option Moment
bound_of place settings =
    option_and_then (λ text. moment_of text.bytes) (value_at place valued.Bound settings)

abbrev pub split_of : List Setting → SplitData
split_of settings =
    record {
      input = input_of settings;
      base = base_of settings;
      unit = unit_of settings;
      repeat = is_set flag.Repeat settings;
      per_cpu = is_set flag.PerCpu settings;
      cpu = cpu_of settings;
      start = bound_of 0 settings;
      stop = bound_of 1 settings;
    }

-- the name of the new file
abbrev pub output_of : List Setting → List ℕ
output_of settings = text_or valued.Output (codes "trace.dat") settings

abbrev pub restore_of : List Setting → RestoreData
restore_of settings =
    record { input = input_of settings; output = output_of settings; files = texts_of valued.DataFile settings }

-- the work of a command
abbrev pub work_of : Tool → List Setting → CommandData
work_of tool.Report settings = Report (report_of settings)
work_of tool.Dump settings = Dump (dump_of settings)
work_of tool.SelfTest settings = SelfTest (self_of settings)
work_of tool.Split settings = Split (split_of settings)
work_of tool.Restore settings = Restore (restore_of settings)

-- help in place of the work, where it is asked for
abbrev pub command_of : Tool → List Setting → CommandData
command_of command settings = if asks_help settings then About (HelpOf command) else work_of command settings
