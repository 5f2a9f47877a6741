-- What the report of one file means, from what its words ask for and from the file alone.
use Rattle.std.specs.Prelude.{Option, None, Some, ℕ, Bool, true, false, List, [], ◌∷◌, ◌++◌, map, drop}
use Rattle.dat_header.specs.declared.header.Header.{Header}
use Rattle.dat_header.specs.declared.header.Body.{Body}
use Rattle.dat_header.specs.declared.header.Body.TheVariants.{Latency, Fly}
use Rattle.subpage.specs.Cut.{cut_of, reached_of}
use Rattle.run_endings.specs.declared.status.Status.TheVariants.{Done}
use Rattle.trace_args.specs.Command.{ReportData}
use Rattle.word_values.specs.declared.listing.Listing.{Listing}
use Rattle.report_context.specs.Context.{formats_of, symbols_of}
use Rattle.file_report.specs.Lists.{list_text}
use Rattle.graph_report.specs.Gathered.{reached_calls}
use Rattle.file_report.specs.Report.{Events, call_pieces, parts_events, report_pieces, waits_section}
use Rattle.report_context.specs.Lines.{cpus_line}
use Rattle.run_endings.specs.Meaning.{Meaning, prints, ended}

-- the report of events: the lines of the reached items, in the order in which these happened
abbrev pub events_report : Events → Meaning
events_report events =
    prints (report_pieces events.recording.cpus events.given (reached_of events.recording.layout events.bytes events.parts))
    (ended (cut_of events.recording.layout events.bytes events.parts))

-- the same and a piece after it
abbrev pub with_piece : Meaning → List ℕ → Meaning
with_piece m piece = prints (m.pieces ++ piece ∷ []) m.status

-- with the latencies after it, where they are asked for
abbrev pub shown_report : Bool → Events → Meaning
shown_report false events = events_report events
shown_report true events = with_piece (events_report events) (waits_section events)

-- the report of calls: the lines of those of the reached items
abbrev pub calls_report : Events → Meaning
calls_report events =
    prints (call_pieces events.recording.cpus events.given (reached_calls events.given events.recording.layout events.bytes events.parts))
    (ended (cut_of events.recording.layout events.bytes events.parts))

-- calls in place of the events, where they are asked for
abbrev pub report_as : Bool → Bool → Events → Meaning
report_as true wakeups events = calls_report events
report_as false wakeups events = shown_report wakeups events

-- the report of a latency file: the rest of its bytes
abbrev pub latency_report : ℕ → ℕ → List ℕ → Meaning
latency_report cpus end bytes = prints (cpus_line cpus ∷ map (λ byte. byte ∷ []) (drop end bytes)) Done

-- the report of the events, or of the calls among them
abbrev pub body_report : ReportData → Header → Body → List ℕ → Meaning
body_report words header Latency bytes = latency_report header.cpus header.end bytes
body_report words header (Fly parts) bytes = report_as words.calls words.wakeups (parts_events words header parts bytes)

-- a list, in place of the events
abbrev pub list_report : Header → Listing → Meaning
list_report header list = prints (list_text (formats_of header) (symbols_of header) list ∷ []) Done

-- the report that the words ask for
abbrev pub report_by : Option Listing → ReportData → Header → List ℕ → Meaning
report_by None words header bytes = body_report words header header.body bytes
report_by (Some list) words header bytes = list_report header list
