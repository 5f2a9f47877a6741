-- The sections of a dump, in its order, and the names of their options.
-- Source: trace-cmd-dump(1), `OPTIONS`.
use Rattle.std.specs.Prelude.{ℕ, List, [], ◌∷◌, codes}
use Rattle.word_values.specs.declared.section.Section.{Section}
use Rattle.word_values.specs.declared.section.Section.TheVariants.{Summary, HeadPage, HeadEvent, FtraceEvents, Systems, Events, Kallsyms, Printk, CmdLines, Options, Flyrecord, Validate}

-- all of them, in order
abbrev pub sections : List Section
sections =
    Summary
    ∷ HeadPage
    ∷ HeadEvent
    ∷ FtraceEvents
    ∷ Systems
    ∷ Events
    ∷ Kallsyms
    ∷ Printk
    ∷ CmdLines
    ∷ Options
    ∷ Flyrecord
    ∷ Validate
    ∷ []

-- the place of a section in that list
abbrev pub place_of : Section → ℕ
place_of Summary = 0
place_of HeadPage = 1
place_of HeadEvent = 2
place_of FtraceEvents = 3
place_of Systems = 4
place_of Events = 5
place_of Kallsyms = 6
place_of Printk = 7
place_of CmdLines = 8
place_of Options = 9
place_of Flyrecord = 10
place_of Validate = 11

-- the name of a section's option, after the two dashes
abbrev pub section_name : Section → List ℕ
section_name Summary = codes "summary"
section_name HeadPage = codes "head-page"
section_name HeadEvent = codes "head-event"
section_name FtraceEvents = codes "ftrace-events"
section_name Systems = codes "systems"
section_name Events = codes "events"
section_name Kallsyms = codes "kallsyms"
section_name Printk = codes "printk"
section_name CmdLines = codes "cmd-lines"
section_name Options = codes "options"
section_name Flyrecord = codes "flyrecord"
section_name Validate = codes "validate"
