-- The inputs of a report of several files, in the order of the words: all of them with their headers, or the first that
-- cannot be shown.
-- Source: trace-cmd-report(1), `-i`.
use Rattle.std.specs.Prelude.{Option, None, Some, Result, Ok, Err, ℕ, Bool, List, [], ◌∷◌, ◌+◌, ◌≤◌, sum_by, IfOk}
use Rattle.std.specs.FinMap.{get}
use Rattle.trace_base.specs.declared.part.Part.{Part}
use Rattle.trace_outside.specs.Causes.{raised}
use Rattle.trace_outside.specs.Names.{NamedFiles}
use Rattle.dat_options.specs.declared.fault.OpenFault.{OpenFault}
use Rattle.dat_header.specs.declared.header.Header.{Header}
use Rattle.dat_header.specs.declared.header.Body.{Body}
use Rattle.dat_header.specs.declared.header.Body.TheVariants.{Latency, Fly}
use Rattle.dat_header.specs.Header.{header_of}
use Rattle.multi_report.specs.Order.{ShownFile}
use Rattle.trace_args.specs.Command.{ReportData}
use Rattle.run_endings.specs.declared.status.Status.{Status}
use Rattle.run_endings.specs.declared.status.Status.TheVariants.{Refused, ReadFault}
use Rattle.report_context.specs.Context.{context_of}
use Rattle.run_words.specs.Readings.{readings}
use Rattle.report_context.specs.Lines.{item_line}
use Rattle.run_endings.specs.Selection.{chosen, set_or_all}
use Rattle.run_endings.specs.Progress.{parts_size}

-- an input that has a header
pub record NamedInput : Type 0 where
  pub name : List ℕ
  pub header : Header
  pub bytes : List ℕ

-- an input that is missing or has no header, and the answer for it
pub record WrongInput : Type 0 where
  pub name : List ℕ
  pub status : Status

abbrev pub input_with : List ℕ → List ℕ → Result Header OpenFault → Result NamedInput WrongInput
input_with name bytes (Ok header) = Ok (record { name = name; header = header; bytes = bytes })
input_with name bytes (Err fault) = Err (record { name = name; status = Refused fault })

abbrev pub input_found : List ℕ → Option (List ℕ) → Result NamedInput WrongInput
input_found name None = Err (record { name = name; status = ReadFault })
input_found name (Some bytes) = input_with name bytes (header_of bytes)

abbrev pub input_named : NamedFiles → List ℕ → Result NamedInput WrongInput
input_named files name = input_found name (get files name)

-- the inputs of these names, or the first that is wrong
abbrev pub inputs_in : NamedFiles → List (List ℕ) → Result (List NamedInput) WrongInput
inputs_in files names = readings (input_named files) names

-- the names that words give
abbrev pub names_in : ReportData → List (List ℕ)
names_in words = words.input ∷ words.more

-- the parts that are shown of a file; a latency file has none
abbrev pub shown_parts : Option (List Bool) → Body → List (ℕ × Part)
shown_parts cpus Latency = []
shown_parts cpus (Fly parts) = chosen (set_or_all cpus) parts

-- what is shown of an input
abbrev pub shown_in : ReportData → NamedInput → ShownFile
shown_in words input = record {
  name = input.name;
  cpus = input.header.cpus;
  layout = input.header.layout;
  bytes = input.bytes;
  parts = shown_parts words.cpus input.header.body;
  text = item_line (context_of words input.header);
}

-- of one of several files in one report its header is needed, and the parts that are shown of it
abbrev pub input_share : ReportData → NamedInput → ℕ
input_share words input = input.header.end + parts_size (shown_parts words.cpus input.header.body)

-- no more was read than is needed of each
abbrev pub FilesRead : ReportData → NamedFiles → ℕ → ℕ → Type 0
FilesRead words files before now = IfOk (inputs_in files (names_in words)) (λ inputs. now ≤ raised before (sum_by (input_share words) inputs))
