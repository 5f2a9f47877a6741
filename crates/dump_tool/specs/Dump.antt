-- What a dump prints of a header. Source: trace-cmd-dump(1).
use Rattle.std.specs.Prelude.{ℕ, Bool, false, List, slice_index_or, codes}
use Rattle.std.specs.List.{filter, flat_map}
use Rattle.word_values.specs.Sections.{sections, place_of}
use Rattle.word_values.specs.declared.section.Section.{Section}
use Rattle.word_values.specs.declared.section.Section.TheVariants.{Summary, HeadPage, HeadEvent, FtraceEvents, Systems, Events, Kallsyms, Printk, CmdLines, Options, Flyrecord, Validate}
use Rattle.dat_header.specs.declared.header.Header.{Header}
use Rattle.dump_tool.specs.Texts.{stored_text}
use Rattle.dump_tool.specs.Entries.{list_text}
use Rattle.dump_tool.specs.Lists.{system_line, events_text, options_of, option_line, body_text}
use Rattle.dump_tool.specs.Summary.{summary_text}

-- the text of a section, for the header of a file with this name
abbrev pub section_text : List ℕ → Header → Section → List ℕ
section_text name header Summary = summary_text name header
section_text name header HeadPage = stored_text (codes "header_page") header.page_text
section_text name header HeadEvent = stored_text (codes "header_event") header.event_text
section_text name header FtraceEvents = list_text (codes "ftrace formats") (stored_text (codes "format")) header.ftrace
section_text name header Systems = list_text (codes "systems") system_line header.systems
section_text name header Events = events_text header.systems
section_text name header Kallsyms = stored_text (codes "kallsyms") header.kallsyms
section_text name header Printk = stored_text (codes "printk formats") header.printk
section_text name header CmdLines = stored_text (codes "command lines") header.cmdlines
section_text name header Options = list_text (codes "options") option_line (options_of header.options)
section_text name header Flyrecord = body_text header.body
section_text name header Validate = codes "valid\n"

-- whether a section is chosen, told for each by its place
abbrev pub is_chosen : List Bool → Section → Bool
is_chosen chosen section = slice_index_or chosen (place_of section) false

-- the texts of those of these sections that are chosen, for the header of a file with this name
abbrev pub chosen_text : List ℕ → List Bool → Header → List Section → List ℕ
chosen_text name chosen header some = flat_map (section_text name header) (filter (is_chosen chosen) some)

-- the texts of the chosen sections, in the order of the sections and not of the words
abbrev pub dump_text : List ℕ → List Bool → Header → List ℕ
dump_text name chosen header = chosen_text name chosen header sections
