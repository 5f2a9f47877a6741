-- The items that a header is made of, one after another.
-- Source: trace-cmd.dat.v6(5).
use Rattle.std.specs.Prelude.{ℕ, List, [], ◌∷◌, ◌++◌, length, Option, Some, None, codes}
use Rattle.std.specs.List.{flat_map}
use Rattle.trace_base.specs.Number.{bytes_of}
use Rattle.trace_base.specs.declared.order.Order.{Order}
use Rattle.trace_base.specs.declared.order.Order.TheVariants.{Little, Big}
use Rattle.dat_options.specs.Options.{options_text}
use Rattle.dat_options.specs.Table.{table_text}
use Rattle.dat_options.specs.declared.option.Opt.{Opt}
use Rattle.dat_options.specs.declared.fault.OpenFault.{OpenFault}
use Rattle.dat_options.specs.declared.fault.OpenFault.TheVariants.{NotTrace, BadEndian, BadLong, BadPageSize, BadSection, TooManyCpus}
use Rattle.dat_header.specs.declared.header.Header.{Header}
use Rattle.dat_header.specs.declared.header.System.{System}
use Rattle.dat_header.specs.declared.header.Body.{Body}
use Rattle.dat_header.specs.declared.header.Body.TheVariants.{Latency, Fly}

-- what an item may be, and so how it can be wrong
pub data Kind : Type 0 where
  -- one of some fixed words, and the fault of any other
  word : List (List ℕ) → (ℕ → OpenFault) → Kind
  -- the word of the file's version
  version : Kind
  -- a value of so many bytes, and the fault of one that is not allowed
  value : ℕ → (ℕ → OpenFault) → Kind
  -- a text, preceded by its size, that has to give a layout
  page_text : Order → Kind
  -- numbers and texts of which any will do
  carried : Kind

pub record Item : Type 0 where
  pub kind : Kind
  pub bytes : List ℕ

-- the items' bytes, joined
abbrev pub text : List Item → List ℕ
text items = flat_map (λ item. item.bytes) items

abbrev pub magic_word : List ℕ
magic_word = 0x17 ∷ 0x08 ∷ 0x44 ∷ codes "tracing"

abbrev pub version_word : List ℕ
version_word = codes "6" ++ 0 ∷ []

abbrev pub page_word : List ℕ
page_word = codes "header_page" ++ 0 ∷ []

abbrev pub event_word : List ℕ
event_word = codes "header_event" ++ 0 ∷ []

abbrev pub options_word : List ℕ
options_word = codes "options  " ++ 0 ∷ []

abbrev pub latency_word : List ℕ
latency_word = codes "latency  " ++ 0 ∷ []

abbrev pub fly_word : List ℕ
fly_word = codes "flyrecord" ++ 0 ∷ []

abbrev pub order_byte : Order → ℕ
order_byte Little = 0
order_byte Big = 1

-- a text, preceded by its size, a number of so many bytes
abbrev pub sized : ℕ → Order → List ℕ → List ℕ
sized width order text = bytes_of order width (length text) ++ text

-- texts, each preceded by its 64-bit size
abbrev pub sized_texts : Order → List (List ℕ) → List ℕ
sized_texts order texts = flat_map (sized 8 order) texts

-- texts, preceded by their number
abbrev pub formats_text : Order → List (List ℕ) → List ℕ
formats_text order formats = bytes_of order 4 (length formats) ++ sized_texts order formats

-- a system: its name, NUL, and its formats
abbrev pub system_text : Order → System → List ℕ
system_text order system = system.name ++ 0 ∷ formats_text order system.formats

abbrev pub systems_text : Order → List System → List ℕ
systems_text order systems = bytes_of order 4 (length systems) ++ flat_map (system_text order) systems

-- the words that may follow the number of processors, and those that may follow options
abbrev pub body_words : List (List ℕ)
body_words = latency_word ∷ fly_word ∷ []

abbrev pub section_words : List (List ℕ)
section_words = options_word ∷ body_words

-- a word, and after `flyrecord` the table of parts
abbrev pub body_items : Order → List (List ℕ) → Body → List Item
body_items order words Latency = record { kind = word words BadSection; bytes = latency_word } ∷ []
body_items order words (Fly parts) = record { kind = word words BadSection; bytes = fly_word } ∷ record { kind = carried; bytes = table_text order parts } ∷ []

abbrev pub section_items : Order → Option (List Opt) → Body → List Item
section_items order None body = body_items order section_words body
section_items order (Some options) body =
    record { kind = word section_words BadSection; bytes = options_word }
    ∷ record { kind = carried; bytes = options_text order options }
    ∷ body_items order body_words body

-- the items of a header, in the order of the file
unfoldable pub items : Header → List Item
items header =
    let order = header.order in
    record { kind = word (magic_word ∷ []) NotTrace; bytes = magic_word }
    ∷ record { kind = version; bytes = version_word }
    ∷ record { kind = value 1 BadEndian; bytes = order_byte order ∷ [] }
    ∷ record { kind = value 1 BadLong; bytes = header.long ∷ [] }
    ∷ record { kind = value 4 BadPageSize; bytes = bytes_of order 4 header.page }
    ∷ record { kind = word (page_word ∷ []) BadSection; bytes = page_word }
    ∷ record { kind = page_text order; bytes = sized 8 order header.page_text }
    ∷ record { kind = word (event_word ∷ []) BadSection; bytes = event_word }
    ∷ record { kind = carried; bytes = sized 8 order header.event_text }
    ∷ record { kind = carried; bytes = formats_text order header.ftrace }
    ∷ record { kind = carried; bytes = systems_text order header.systems }
    ∷ record { kind = carried; bytes = sized 4 order header.kallsyms }
    ∷ record { kind = carried; bytes = sized 4 order header.printk }
    ∷ record { kind = carried; bytes = sized 8 order header.cmdlines }
    ∷ record { kind = value 4 TooManyCpus; bytes = bytes_of order 4 header.cpus }
    ∷ section_items order header.options header.body
