-- What a report's lines stand on: the formats and names of a file's header, and what the words ask for.
-- Source: trace-cmd.dat.v6(5), where ftrace's own formats come before those of the event systems.
use Rattle.std.specs.Prelude.{List, [], ◌++◌, codes}
use Rattle.std.specs.List.{flat_map}
use Rattle.trace_base.specs.declared.layout.Layout.{Layout}
use Rattle.dat_header.specs.declared.header.Header.{Header}
use Rattle.trace_args.specs.Command.{ReportData}
use Rattle.format_parse.specs.declared.format.EventFormat.{EventFormat}
use Rattle.format_parse.specs.Table.{formats_in, with_formats}
use Rattle.symbols.specs.Maps.{Maps, maps_of}
use Rattle.line_fronts.specs.declared.show.Show.{Show}
use Rattle.report_print.specs.ContextData.{ContextData}
use Rattle.run_words.specs.Usage.{uses_in}

-- the formats of ftrace's own events, and after them those of each system
abbrev pub all_formats : Header → List EventFormat
all_formats header = formats_in (codes "ftrace") header.ftrace ++ flat_map (λ system. formats_in system.name system.formats) header.systems

-- of formats with one id the first
abbrev pub formats_of : Header → List EventFormat
formats_of header = with_formats [] (all_formats header)

abbrev pub symbols_of : Header → Maps
symbols_of header = maps_of header.kallsyms header.printk header.cmdlines

-- what is to be shown; the size of the kernel's long is that of the commit field
abbrev pub show_of : ReportData → Layout → Show
show_of words layout = record {
  order = layout.order;
  long = layout.commit_size;
  line = words.line;
  raw_events = words.raw_events;
}

abbrev pub context_of : ReportData → Header → ContextData
context_of words header = record {
  formats = formats_of header;
  symbols = symbols_of header;
  filters = uses_in words.filters;
  show = show_of words header.layout;
}
