-- What a command line asks for, as plain data.
use Rattle.std.specs.Prelude.{ℕ, Bool, List, map, Option}
use Rattle.word_values.specs.declared.listing.Listing.{Listing}
use Rattle.word_values.specs.declared.moment.Moment.{Moment}
use Rattle.word_values.specs.declared.piece.PieceUnit.{PieceUnit}
use Rattle.trace_args.specs.declared.command.Command.{Command}
use Rattle.trace_args.specs.declared.command.Command.TheVariants as code
use Rattle.trace_args.specs.declared.command.ReportWords.{ReportWords}
use Rattle.line_options.specs.declared.options.LineOptions.{LineOptions}
use Rattle.trace_args.specs.declared.command.FilterWord.{FilterWord}
use Rattle.trace_args.specs.declared.command.DumpWords.{DumpWords}
use Rattle.trace_args.specs.declared.command.SelfWords.{SelfWords}
use Rattle.trace_args.specs.declared.command.SplitWords.{SplitWords}
use Rattle.trace_args.specs.declared.command.RestoreWords.{RestoreWords}
use Rattle.trace_args.specs.declared.topic.Topic.{Topic}

-- a filter, the number of the word that holds it, and whether it hides
pub record FilterData : Type 0 where
  pub word : ℕ
  pub hide : Bool
  pub text : List ℕ

pub record ReportData : Type 0 where
  pub input : List ℕ
  pub more : List (List ℕ)
  pub filters : List FilterData
  pub line : LineOptions
  pub raw_events : List (List ℕ)
  pub calls : Bool
  pub list : Option Listing
  pub wakeups : Bool
  pub cpus : Option (List Bool)
  pub workers : ℕ

pub record DumpData : Type 0 where
  pub input : List ℕ
  pub sections : List Bool

pub record SelfData : Type 0 where
  pub seed : ℕ
  pub events : ℕ
  pub workers : ℕ

pub record SplitData : Type 0 where
  pub input : List ℕ
  pub base : List ℕ
  pub unit : PieceUnit
  pub repeat : Bool
  pub per_cpu : Bool
  pub cpu : Option ℕ
  pub start : Option Moment
  pub stop : Option Moment

pub record RestoreData : Type 0 where
  pub input : List ℕ
  pub output : List ℕ
  pub files : List (List ℕ)

pub data CommandData : Type 0 where
  Report : ReportData → CommandData
  Dump : DumpData → CommandData
  SelfTest : SelfData → CommandData
  Split : SplitData → CommandData
  Restore : RestoreData → CommandData
  About : Topic → CommandData

abbrev pub filter_view : FilterWord → FilterData
filter_view w = record { word = w.word; hide = w.hide; text = w.text.now }

abbrev pub report_view : ReportWords → ReportData
report_view w =
    record {
      input = w.input.now;
      more = map (λ name. name.now) w.more.items;
      filters = map filter_view w.filters.items;
      line = w.line;
      raw_events = map (λ name. name.now) w.raw_events.items;
      calls = w.calls;
      list = w.list;
      wakeups = w.wakeups;
      cpus = w.cpus;
      workers = w.workers;
    }

abbrev pub dump_view : DumpWords → DumpData
dump_view w = record { input = w.input.now; sections = w.sections }

abbrev pub self_view : SelfWords → SelfData
self_view w = record { seed = w.seed; events = w.events; workers = w.workers }

abbrev pub split_view : SplitWords → SplitData
split_view w =
    record {
      input = w.input.now;
      base = w.base.now;
      unit = w.unit;
      repeat = w.repeat;
      per_cpu = w.per_cpu;
      cpu = w.cpu;
      start = w.start;
      stop = w.stop;
    }

abbrev pub restore_view : RestoreWords → RestoreData
restore_view w =
    record { input = w.input.now; output = w.output.now; files = map (λ name. name.now) w.files.items }

-- a command's words as plain data
abbrev pub command_view : Command → CommandData
command_view (code.Report w) = Report (report_view w)
command_view (code.Dump w) = Dump (dump_view w)
command_view (code.SelfTest w) = SelfTest (self_view w)
command_view (code.Split w) = Split (split_view w)
command_view (code.Restore w) = Restore (restore_view w)
command_view (code.About topic) = About topic
