-- A report of events: its first line, a line for each item, and after them how long woken tasks waited.
-- Source: trace-cmd-report(1).
use Rattle.std.specs.Prelude.{Option, None, Some, ℕ, Bool, true, false, List, ◌∷◌, map}
use Rattle.trace_base.specs.declared.part.Part.{Part}
use Rattle.dat_header.specs.declared.header.Header.{Header}
use Rattle.dat_header.specs.declared.header.Body.{Body}
use Rattle.dat_header.specs.declared.header.Body.TheVariants.{Latency, Fly}
use Rattle.line_holes.specs.Holes.{LineText, filled_lines}
use Rattle.subpage.specs.Arrangement.{Keyed}
use Rattle.subpage.specs.Cut.{reached_of}
use Rattle.report_print.specs.ContextData.{ContextData}
use Rattle.call_pairs.specs.declared.call.Call.{Call}
use Rattle.file_report.specs.declared.report.Recording.{Recording}
use Rattle.graph_report.specs.CallText.{call_line}
use Rattle.trace_args.specs.Command.{ReportData}
use Rattle.wakeup_pairs.specs.Gathered.{gathered}
use Rattle.wakeup_lat.specs.Roles.{all_seen}
use Rattle.wakeup_lat.specs.Section.{section}
use Rattle.report_context.specs.Context.{context_of}
use Rattle.word_values.specs.declared.listing.Listing.{Listing}
use Rattle.run_endings.specs.Selection.{chosen, set_or_all}
use Rattle.report_context.specs.Lines.{cpus_line, item_line}

-- a report's first line and the lines of calls
abbrev pub call_pieces : ℕ → ContextData → List Call → List (List ℕ)
call_pieces cpus given calls = cpus_line cpus ∷ map (call_line given) calls

-- the line of an item in its place
abbrev pub entry_line : ContextData → Keyed → LineText
entry_line given keyed = item_line given keyed.cpu keyed.item

-- the pieces of a report of these items: after the first line one for each, its line filled from the last one before it
-- that has a hole
abbrev pub report_pieces : ℕ → ContextData → List Keyed → List (List ℕ)
report_pieces cpus given items = cpus_line cpus ∷ filled_lines None (map (entry_line given) items)

-- A report of events: what its lines stand on, the parts that it shows with their processors, how the file was recorded, and
-- its bytes.
pub record Events : Type 0 where
  pub given : ContextData
  pub parts : List (ℕ × Part)
  pub recording : Recording
  pub bytes : List ℕ

abbrev pub events_on : ContextData → List (ℕ × Part) → Recording → List ℕ → Events
events_on given parts recording bytes = record { given = given; parts = parts; recording = recording; bytes = bytes }

-- how a file with this header was recorded
abbrev pub recording_of : Header → Recording
recording_of header = record { cpus = header.cpus; layout = header.layout }

abbrev pub parts_events : ReportData → Header → List Part → List ℕ → Events
parts_events words header parts bytes =
    events_on (context_of words header) (chosen (set_or_all words.cpus) parts) (recording_of header) bytes

-- the items that it shows lines of
abbrev pub reached_items : Events → List Keyed
reached_items events = reached_of events.recording.layout events.bytes events.parts

-- how long woken tasks waited, by what is seen of these items, shown or not
abbrev pub waits_section : Events → List ℕ
waits_section events = section events.given (gathered (all_seen events.given (reached_items events))).pairs

-- Events of which no more is read than their lines need: where the latencies are asked for, all of it is read before.
abbrev pub lines_alone : Bool → Events → Option Events
lines_alone false events = Some events
lines_alone true events = None

-- events of which no calls are shown
abbrev pub unless_calls : Bool → Bool → Events → Option Events
unless_calls true wakeups events = None
unless_calls false wakeups events = lines_alone wakeups events

-- a latency file has none
abbrev pub body_events : ReportData → Header → Body → List ℕ → Option Events
body_events words header Latency bytes = None
body_events words header (Fly parts) bytes = unless_calls words.calls words.wakeups (parts_events words header parts bytes)

-- nor has a list
abbrev pub listed_events : Option Listing → ReportData → Header → List ℕ → Option Events
listed_events None words header bytes = body_events words header header.body bytes
listed_events (Some list) words header bytes = None

-- whether a report of a file with this body shows calls, which are all gathered before the first byte
abbrev pub body_calls : Bool → Body → Bool
body_calls calls Latency = false
body_calls calls (Fly parts) = calls

-- no list does
abbrev pub listed_calls : Option Listing → Bool → Body → Bool
listed_calls None calls body = body_calls calls body
listed_calls (Some list) calls body = false
