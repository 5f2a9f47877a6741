-- The header that a file has, or what is wrong with the file, computed step by step.
use Rattle.std.specs.Prelude.{ℕ, ◌+◌, List, length, drop, Option, Some, None, Result, Ok, if◌then◌else◌}
use Rattle.trace_base.specs.declared.order.Order.{Order}
use Rattle.dat_options.specs.declared.fault.OpenFault.{OpenFault}
use Rattle.dat_options.specs.declared.fault.OpenFault.TheVariants.{BadSection, TooManyCpus, Read, Memory}
use Rattle.dat_options.specs.Options.{options_from}
use Rattle.dat_options.specs.Table.{table_from}
use Rattle.dat_options.specs.Answer.{AnswersTold}
use Rattle.dat_header.specs.declared.header.Header.{Header}
use Rattle.dat_header.specs.declared.header.Body.{Body}
use Rattle.dat_header.specs.declared.header.Body.TheVariants.{Latency, Fly}
use Rattle.dat_header.specs.declared.pieces.Opening.{Opening}
use Rattle.dat_header.specs.declared.pieces.Carried.{Carried}
use Rattle.dat_header.specs.declared.pieces.Sections.{Sections}
use Rattle.dat_header.specs.declared.pieces.LastSection.{LastSection}
use Rattle.dat_header.specs.declared.pieces.LastSection.TheVariants as kind
use Rattle.dat_header.specs.Items.{options_word, latency_word, fly_word, section_words, body_words}
use Rattle.dat_header.specs.Refusal.{begins_with, word_fault}
use Rattle.dat_header.specs.Found.{Found, ◌>>=◌, or_wrong}
use Rattle.dat_header.specs.ItemsAt.{value_at, text_at, cpus_of}
use Rattle.dat_header.specs.Opening.{opening_at, described_at}

-- the texts that are carried unread
unfoldable pub carried_at : Order → List ℕ → ℕ → Found Carried
carried_at order file at = do
  (described, after) ← described_at order file at
  (cmdlines, after) ← text_at 8 order file after
  Ok (record { described = described; cmdlines = cmdlines }, after)

-- the last section that bytes begin with
abbrev pub last_in : List ℕ → Option LastSection
last_in there = if begins_with there latency_word then Some kind.Latency else if begins_with there fly_word then Some kind.Fly else None

-- the same, or what is wrong where these bytes are there of a file of that size
abbrev pub last_word_in : List (List ℕ) → ℕ → List ℕ → ℕ → Result LastSection OpenFault
last_word_in words at there size = or_wrong (word_fault words (BadSection at) there size) (last_in there)

unfoldable pub last_word_at : List (List ℕ) → List ℕ → ℕ → Found LastSection
last_word_at words file at = do
  last ← last_word_in words at (drop at file) (length file)
  Ok (last, at + 10)

-- the first section, if it is the last one too, and none where it is that of options
abbrev pub first_word_in : ℕ → List ℕ → ℕ → Result (Option LastSection) OpenFault
first_word_in at there size =
    if begins_with there options_word then Ok None
    else do
      last ← last_word_in section_words at there size
      Ok (Some last)

unfoldable pub first_word_at : List ℕ → ℕ → Found (Option LastSection)
first_word_at file at = do
  first ← first_word_in at (drop at file) (length file)
  Ok (first, at + 10)

-- what follows the last section's word
abbrev pub body_at : Order → ℕ → LastSection → List ℕ → ℕ → Found Body
body_at order cpus kind.Latency file at = Ok (Latency, at)
body_at order cpus kind.Fly file at = do
  (parts, after) ← table_from order cpus at file
  Ok (Fly parts, after)

-- options and the last section
unfoldable pub behind_options_at : Order → ℕ → List ℕ → ℕ → Found Sections
behind_options_at order cpus file at = do
  (options, at_last) ← options_from order at file
  (last, after) ← last_word_at body_words file at_last
  (body, end) ← body_at order cpus last file after
  Ok (record { options = Some options; body = body }, end)

abbrev pub behind_first_at : Order → ℕ → Option LastSection → List ℕ → ℕ → Found Sections
behind_first_at order cpus None file at = behind_options_at order cpus file at
behind_first_at order cpus (Some last) file at = do
  (body, end) ← body_at order cpus last file at
  Ok (record { options = None; body = body }, end)

-- the sections after the number of processors
unfoldable pub sections_at : Order → ℕ → List ℕ → ℕ → Found Sections
sections_at order cpus file at = do
  (first, after) ← first_word_at file at
  behind_first_at order cpus first file after

-- the header of these pieces
abbrev pub joined : Opening → Carried → ℕ → Sections → ℕ → Header
joined opening carried cpus sections end =
    let machine = opening.machine in
    let page = opening.page in
    let described = carried.described in
    record { order = machine.order; long = machine.long; page = machine.page; layout = page.layout; page_text = page.text; event_text = described.event_text; ftrace = described.ftrace; systems = described.systems; kallsyms = described.kallsyms; printk = described.printk; cmdlines = carried.cmdlines; cpus = cpus; options = sections.options; body = sections.body; end = end }

-- the header that a file begins with, or what is wrong with it
unfoldable pub header_of : List ℕ → Result Header OpenFault
header_of file = do
  (opening, at_event) ← opening_at file 0
  (carried, at_cpus) ← carried_at opening.machine.order file at_event
  (cpus, after) ← value_at 4 opening.machine.order cpus_of (TooManyCpus at_cpus) file at_cpus
  (sections, end) ← sections_at opening.machine.order cpus file after
  Ok (joined opening carried cpus sections end)

-- it says what is wrong with the file's bytes
abbrev pub IsRefusal : OpenFault → Type 0
IsRefusal Read = ⊥
IsRefusal Memory = ⊥
IsRefusal fault = Unit {0}

-- what a call answered that read the header of a file, where the file tells its bytes
abbrev pub ReadsHeader : Option (List ℕ) → Result Header OpenFault → Type 0
ReadsHeader told result = AnswersTold header_of told result
