-- How many bytes of its file a report needs, and which of them are due by what it wrote.
use Rattle.std.specs.Prelude.{Option, None, Some, ◌+◌, ◌-◌, ◌*◌, ◌≤◌, ℕ, Bool, true, false, List, [], drop, length, nat_eq, if◌then◌else◌}
use Rattle.std.specs.List.{starts_with}
use Rattle.trace_base.specs.declared.part.Part.{Part}
use Rattle.trace_outside.specs.Causes.{raised}
use Rattle.trace_outside.specs.Writing.{Gained}
use Rattle.dat_header.specs.declared.header.Header.{Header}
use Rattle.dat_header.specs.declared.header.Body.{Body}
use Rattle.dat_header.specs.declared.header.Body.TheVariants.{Latency, Fly}
use Rattle.report_rounds.specs.Due.{due_bytes}
use Rattle.trace_args.specs.Command.{ReportData}
use Rattle.word_values.specs.declared.listing.Listing.{Listing}
use Rattle.file_report.specs.Report.{Events}
use Rattle.report_context.specs.Lines.{cpus_line, item_line}
use Rattle.run_endings.specs.Selection.{chosen, set_or_all}
use Rattle.run_endings.specs.Progress.{parts_size, Progress}

-- how many bytes after the header a report of events needs: the parts of the chosen processors, and these twice where the
-- latencies are gathered before
abbrev pub parts_share : Bool → List (ℕ × Part) → ℕ
parts_share false parts = parts_size parts
parts_share true parts = 2 * parts_size parts

-- or the rest of a latency file, which has this size
abbrev pub body_share : ReportData → Header → Body → ℕ → ℕ
body_share words header Latency size = size - header.end
body_share words header (Fly parts) size = parts_share words.wakeups (chosen (set_or_all words.cpus) parts)

-- a list needs none
abbrev pub report_share : Option Listing → ReportData → Header → ℕ → ℕ
report_share None words header size = body_share words header header.body size
report_share (Some list) words header size = 0

-- what a report wrote after its first line: nothing where that line is not whole
abbrev pub behind_first : ℕ → List ℕ → List ℕ
behind_first cpus written =
    if starts_with nat_eq written (cpus_line cpus) then drop (length (cpus_line cpus)) written else []

-- the bytes of the sub-buffers that are due once a report of events wrote this
abbrev pub due_of : Events → List ℕ → ℕ
due_of events written =
    due_bytes (item_line events.given) events.recording.layout events.bytes events.parts (behind_first events.recording.cpus written)

-- a text was written, and no more than so many bytes and those that are due by it were read
abbrev pub ReadsDue : Events → ℕ → Progress → Progress → Type 0
ReadsDue events first before now =
    (written : List ℕ) × (Gained before.written now.written written × (now.reads ≤ raised before.reads (first + due_of events written)))
