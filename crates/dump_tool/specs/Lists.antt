-- The sections of a dump that show a list. Source: trace-cmd-dump(1), for what each shows; trace-cmd.dat.v6(5), for what a
-- header has.
use Rattle.std.specs.Prelude.{Option, None, Some, ℕ, List, [], ◌∷◌, ◌++◌, length, sum_by, codes}
use Rattle.std.specs.List.{concat, flat_map, enumerate_from}
use Rattle.std.specs.Fmt.{decimal}
use Rattle.trace_base.specs.declared.part.Part.{Part}
use Rattle.dat_options.specs.declared.option.Opt.{Opt}
use Rattle.dat_header.specs.declared.header.System.{System}
use Rattle.dat_header.specs.declared.header.Body.{Body}
use Rattle.dat_header.specs.declared.header.Body.TheVariants.{Latency, Fly}
use Rattle.dump_tool.specs.Texts.{count_line, heading, stored_text}
use Rattle.dump_tool.specs.Entries.{list_text}

-- a system with the number of its events
abbrev pub system_line : System → List ℕ
system_line system = count_line system.name (length system.formats)

-- how many events the systems have
abbrev pub event_count : List System → ℕ
event_count systems = sum_by (λ system. length system.formats) systems

-- the formats of a system's events, each under its name
abbrev pub system_formats : System → List ℕ
system_formats system = flat_map (stored_text system.name) system.formats

-- the formats of all systems' events
abbrev pub events_text : List System → List ℕ
events_text systems = heading (codes "events") (event_count systems) ++ flat_map system_formats systems

-- the options; a file without that section has none
abbrev pub options_of : Option (List Opt) → List Opt
options_of None = []
options_of (Some options) = options

abbrev pub option_line : Opt → List ℕ
option_line option = concat (codes "option " ∷ decimal option.id ∷ codes " " ∷ decimal (length option.bytes) ∷ codes " bytes\n" ∷ [])

-- where a processor's data stand
abbrev pub part_line : ℕ × Part → List ℕ
part_line (cpu, part) = concat (
    codes "cpu " ∷ decimal cpu ∷ codes " offset " ∷ decimal part.offset ∷ codes " size " ∷ decimal part.size ∷ codes "\n" ∷ [])

-- where each processor's data stand, the processors numbered from 0
abbrev pub body_text : Body → List ℕ
body_text Latency = codes "[latency]\n"
body_text (Fly parts) = list_text (codes "flyrecord") part_line (enumerate_from 0 parts)
