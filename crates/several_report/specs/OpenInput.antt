-- An input that is open: its file, and what its lines stand on.
use Rattle.std.specs.Prelude.{Option, Ok, Err, ◌≡◌, ◌≤◌, ℕ, List}
use Rattle.std.specs.List.{All}
use Rattle.trace_outside.specs.Causes.{Rose, raised}
use Rattle.trace_outside.specs.declared.outside.File as outside_file
use Rattle.trace_outside.specs.Seen.{FileSeen}
use Rattle.dat_header.specs.declared.header.Header.{Header}
use Rattle.dat_header.specs.Header.{IsRefusal, ReadsHeader}
use Rattle.subpage.specs.WithBytes.{with_bytes}
use Rattle.time_merge.specs.LaneRows.{parts_of}
use Rattle.multi_report.specs.declared.source.Source.{Source}
use Rattle.multi_report.specs.Sources.{SourceView, seen}
use Rattle.trace_args.specs.Command.{ReportData}
use Rattle.report_context.specs.declared.lines.ItemLines.{ItemLines}
use Rattle.several_report.specs.declared.sources.Basis.{Basis}
use Rattle.run_endings.specs.declared.status.Status.{Status}
use Rattle.run_endings.specs.declared.status.Status.TheVariants.{Refused, ReadFault, NoMemory}
use Rattle.report_context.specs.Context.{context_of}
use Rattle.several_report.specs.Inputs.{shown_parts}
use Rattle.time_merge.specs.Unused.{IsUnused}
use Rattle.report_context.specs.Lines.{item_line}

-- an input that is open, as a source of lines of items
abbrev pub source_seen : {I : Type 0} → outside_file.Ghosts I → Source I ItemLines → SourceView
source_seen f source = seen f (λ lines cpu item. item_line lines.context cpu item) source

-- the one of this name, of such a file, and of what its lines stand on
abbrev pub seen_with : List ℕ → FileSeen → Basis → SourceView
seen_with name opened basis = record {
  name = name;
  cpus = basis.cpus;
  layout = basis.lanes.layout;
  text = item_line basis.form.context;
  told = opened.bytes;
  size = opened.size;
  faults = opened.faults;
  reads = opened.reads;
  lanes = basis.lanes.all;
  readiness = basis.lanes.readiness;
}

-- the file of a source
abbrev pub file_in : SourceView → FileSeen
file_in source = record { bytes = source.told; size = source.size; faults = source.faults; reads = source.reads }

-- what the lines of a file with this header stand on, and lanes over the parts with bytes that are shown of it, of which nothing
-- was used up
pub record IsBasis (words : ReportData) (header : Header) (basis : Basis) : Type 0 where
  pub layout : basis.lanes.layout ≡ header.layout
  pub cpus : basis.cpus ≡ header.cpus
  pub context : basis.form.context ≡ context_of words header
  pub parts : parts_of basis.lanes.all ≡ with_bytes (shown_parts words.cpus header.body)
  pub unused : All (IsUnused header.layout 0) basis.lanes.all

-- the header of a file was read, and this is what its lines stand on
pub record IsRead (words : ReportData) (told : Option (List ℕ)) (before now : ℕ) (basis : Basis) : Type 0 where
  pub header : Header
  pub read : ReadsHeader told (Ok header)
  pub stands : IsBasis words header basis
  pub reads : now ≤ raised before header.end

-- why a file cannot be shown: its bytes begin with no header, a read failed, which its count shows, or there was no memory, and
-- then the count is as it was
abbrev pub WhyUnread : Option (List ℕ) → ℕ → ℕ → Status → Type 0
WhyUnread told faults now_faults (Refused fault) = IsRefusal fault × ReadsHeader told (Err fault)
WhyUnread told faults now_faults ReadFault = Rose faults now_faults
WhyUnread told faults now_faults NoMemory = now_faults ≡ faults
WhyUnread told faults now_faults status = ⊥
