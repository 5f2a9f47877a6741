-- What a self-test prints: the line that sums up the report of generated events. The report is told by the events
-- alone, in the order in which they happened; how a file holds them is not.
-- Source: this project.
use Rattle.std.specs.Prelude.{None, ℕ, false, List, []}
use Rattle.std.specs.List.{enumerate_from}
use Rattle.subpage.specs.Arrangement.{Keyed, arranged}
use Rattle.line_options.specs.declared.options.LineOptions.{LineOptions}
use Rattle.trace_args.specs.Command.{ReportData, SelfData}
use Rattle.trace_gen.specs.Generated.{lists_of}
use Rattle.trace_gen.specs.GeneratedHeader.{header_but_parts}
use Rattle.trace_gen.specs.Summary.{summary_line}
use Rattle.report_context.specs.Context.{context_of}
use Rattle.file_report.specs.Report.{report_pieces}
use Rattle.trace_outside.specs.Pieces.{text_of}

-- what is shown of each line without options
abbrev pub plain_lines : LineOptions
plain_lines = record { full = false; diff = false; latency = false; raw = false; no_hard = false; no_soft = false }

-- the words of a report without options
abbrev pub plain_report : ReportData
plain_report = record {
  input = [];
  more = [];
  filters = [];
  line = plain_lines;
  raw_events = [];
  calls = false;
  list = None;
  wakeups = false;
  cpus = None;
  workers = 1;
}

-- the events of all four processors, in the order in which they happened
unfoldable pub generated_items : ℕ → ℕ → List Keyed
generated_items seed events = arranged (enumerate_from 0 (lists_of seed events))

-- the report of them
unfoldable pub generated_report : ℕ → ℕ → List ℕ
generated_report seed events =
    text_of (report_pieces header_but_parts.cpus (context_of plain_report header_but_parts) (generated_items seed events))

-- the line that sums it up
unfoldable pub self_test_line : SelfData → List ℕ
self_test_line words = summary_line words.seed words.events (generated_report words.seed words.events)
