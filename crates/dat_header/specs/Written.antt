-- What writing a header writes: the header with a table of these parts.
use Rattle.std.specs.Prelude.{◌≡◌, ◌+◌, ℕ, List, [], ◌++◌, Option, None, Some, length, not, ◌==◌, ◌||◌, ◌≤◌, Bool, OnOk, OnErr, Result}
use Rattle.std.specs.List.{filter, flat_map}
use Rattle.std.specs.Option.{option_map}
use Rattle.trace_base.specs.declared.order.Order.{Order}
use Rattle.trace_base.specs.declared.part.Part.{Part}
use Rattle.trace_outside.specs.declared.outside.Sink as sink
use Rattle.trace_outside.specs.Causes.{Rose}
use Rattle.trace_outside.specs.Writing.{Gained, GainedPrefix}
use Rattle.dat_options.specs.declared.option.Opt.{Opt}
use Rattle.dat_options.specs.Options.{option_text, options_text}
use Rattle.dat_header.specs.declared.header.Header.{Header}
use Rattle.dat_header.specs.declared.header.Body.TheVariants.{Fly}
use Rattle.dat_header.specs.Items.{items, text, options_word}

-- the header with these parts
abbrev pub with_parts : Header → List Part → Header
with_parts header parts = record header { body = Fly parts }

abbrev pub header_text : Header → List Part → List ℕ
header_text header parts = text (items (with_parts header parts))

-- what stands in front of the table, whatever the parts: the header with a table of none
abbrev pub text_before_table : Header → List ℕ
text_before_table header = header_text header []

-- the header that is written: these parts, and the place after it
abbrev pub written : Header → List Part → Header
written header parts = record header { body = Fly parts; end = length (header_text header parts) }

-- the section of options, if there is one
abbrev pub options_section : Order → Option (List Opt) → List ℕ
options_section order None = []
options_section order (Some options) = options_word ++ options_text order options

-- how long the section of options is, the word that begins it and the id that ends it included
abbrev pub section_len : Order → Option (List Opt) → ℕ
section_len order None = 0
section_len order (Some options) = length (flat_map (option_text order) options) + 12

-- an option that says where another instance's data stand, or which clock there is
abbrev pub is_instance : Opt → Bool
is_instance option = option.id == 3 || option.id == 4

-- the header without those options
abbrev pub without_instances : Header → Header
without_instances header = record header { options = option_map (filter (λ option. not (is_instance option))) header.options }

-- the text was written, or after a fault a prefix of it
pub record Writes {O E : Type 0} (text : List ℕ) (o : sink.Ghosts O) (before now : O) (result : Result (Unit {0}) E) : Type 0 where
  pub gained : OnOk result (Gained (o.written before) (o.written now) text)
  pub prefix : OnErr result (GainedPrefix (o.written before) (o.written now) text)
  pub name : o.name now ≡ o.name before
  pub later : o.faults before ≤ o.faults now
  pub failed : OnErr result (Rose (o.faults before) (o.faults now))
  pub kept : OnOk result (o.faults now ≡ o.faults before)
