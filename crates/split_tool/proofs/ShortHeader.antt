-- A header that was read of few bytes is short, and allowed without the options of instances too.
use Rattle.std.proofs.Common.{◌≡◌, ℕ, ◌≤◌, ◌^◌, Bool, true, false, cond, not, List, [], ◌∷◌, length, Option, Some, None, Ok, ap, arith}
use Rattle.std.proofs.lemmas.List.{length-append}
use Rattle.std.proofs.lemmas.List.Concat.{flat_map-cons}
use Rattle.std.proofs.lemmas.List.Elements.{All-filter}
use Rattle.std.specs.List.{All, filter, flat_map}
use Rattle.std.specs.Option.{IfSome, option_map}
use Rattle.trace_base.specs.declared.order.Order.{Order}
use Rattle.trace_base.specs.declared.part.Part.{Part}
use Rattle.dat_options.specs.declared.option.Opt.{Opt}
use Rattle.dat_options.specs.Options.{IsOption, option_text}
use Rattle.dat_header.specs.declared.header.Header.{Header}
use Rattle.dat_header.specs.Allowed.{IsHeader}
use Rattle.dat_header.specs.Header.{header_of}
use Rattle.dat_header.specs.Written.{header_text, is_instance, section_len, without_instances}
use Rattle.dat_header.proofs.Wrapped.{length-header_text}
use Rattle.split_tool.proofs.HeaderLength.{header_inside}

-- options that are left out take no room
filter_shorter : {X : Type 0} (spell : X → List ℕ) (p : X → Bool) (xs : List X) → length (flat_map spell (filter p xs)) ≤ length (flat_map spell xs)
filter_shorter spell p [] = omega arith
filter_shorter spell p (x ∷ xs) = by_test (p x) (filter_shorter spell p xs)
  where
    by_test : (b : Bool) → length (flat_map spell (filter p xs)) ≤ length (flat_map spell xs)
        → length (flat_map spell (cond b (x ∷ filter p xs) (filter p xs))) ≤ length (flat_map spell (x ∷ xs))
    by_test true fewer = omega (
      arith,
      fewer,
      ap length (flat_map-cons spell x xs),
      ap length (flat_map-cons spell x (filter p xs)),
      length-append (spell x) (flat_map spell xs),
      length-append (spell x) (flat_map spell (filter p xs)),
    )
    by_test false fewer = omega (arith, fewer, ap length (flat_map-cons spell x xs), length-append (spell x) (flat_map spell xs))

section_shorter : (order : Order) (p : Opt → Bool) (options : Option (List Opt)) → section_len order (option_map (filter p) options) ≤ section_len order options
section_shorter order p None = omega arith
section_shorter order p (Some options) = omega (arith, filter_shorter (option_text order) p options)

-- a header that was read of so few bytes is short, whatever table it gets
pub text_short : (header : Header) (bytes : List ℕ) (parts : List Part) → header_of bytes ≡ Ok header → header.cpus ≤ 1024 → length parts ≡ header.cpus → length bytes ≤ 2 ^ 39
    → length (header_text (without_instances header) parts) ≤ 2 ^ 41
text_short header bytes parts read few each short = omega (
  arith,
  few,
  short,
  header_inside bytes header read,
  section_shorter header.order (λ option. not (is_instance option)) header.options,
  length-header_text (without_instances header) parts,
  each,
)

some_options : (told : Option (List Opt)) → IfSome told (All IsOption) → IfSome (option_map (filter (λ option. not (is_instance option))) told) (All IsOption)
some_options None all = tt
some_options (Some options) all = All-filter (λ option. not (is_instance option)) IsOption options all

-- a header is allowed without them
pub still_header : (header : Header) → IsHeader header → IsHeader (without_instances header)
still_header header is = record {
  long = is.long;
  page = is.page;
  page_text = is.page_text;
  layout = is.layout;
  event_text = is.event_text;
  ftrace = is.ftrace;
  systems = is.systems;
  kallsyms = is.kallsyms;
  printk = is.printk;
  cmdlines = is.cmdlines;
  cpus = is.cpus;
  options = some_options header.options is.options;
  body = is.body;
}
