-- The summary of a header: its form and the size of each of its parts.
use Rattle.std.specs.Prelude.{ℕ, List, [], ◌∷◌, length, codes}
use Rattle.std.specs.List.{concat}
use Rattle.trace_base.specs.declared.order.Order.{Order}
use Rattle.trace_base.specs.declared.order.Order.TheVariants.{Little, Big}
use Rattle.dat_header.specs.declared.header.Header.{Header}
use Rattle.dat_header.specs.declared.header.Body.{Body}
use Rattle.dat_header.specs.declared.header.Body.TheVariants.{Latency, Fly}
use Rattle.dump_tool.specs.Texts.{value_line, count_line}
use Rattle.dump_tool.specs.Lists.{event_count, options_of}

abbrev pub order_name : Order → List ℕ
order_name Little = codes "little"
order_name Big = codes "big"

abbrev pub body_name : Body → List ℕ
body_name Latency = codes "latency"
body_name (Fly parts) = codes "flyrecord"

-- the summary of the header of a file with this name
abbrev pub summary_text : List ℕ → Header → List ℕ
summary_text name header = concat (
    value_line (codes "file") name
    ∷ count_line (codes "version") 6
    ∷ value_line (codes "order") (order_name header.order)
    ∷ count_line (codes "long") header.long
    ∷ count_line (codes "page") header.page
    ∷ count_line (codes "header_page") (length header.page_text)
    ∷ count_line (codes "header_event") (length header.event_text)
    ∷ count_line (codes "ftrace formats") (length header.ftrace)
    ∷ count_line (codes "systems") (length header.systems)
    ∷ count_line (codes "events") (event_count header.systems)
    ∷ count_line (codes "kallsyms") (length header.kallsyms)
    ∷ count_line (codes "printk formats") (length header.printk)
    ∷ count_line (codes "command lines") (length header.cmdlines)
    ∷ count_line (codes "processors") header.cpus
    ∷ count_line (codes "options") (length (options_of header.options))
    ∷ value_line (codes "body") (body_name header.body)
    ∷ [])
