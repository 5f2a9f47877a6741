-- The texts of a header that was read are no longer than the file.
use Rattle.std.proofs.Common.{◌≡◌, ℕ, zero, suc, ◌+◌, ◌<◌, ◌≤◌, Bool, true, false, cond, if◌then◌else◌, eqb, ltb, List, [], ◌∷◌, length, take, drop, Option, None, Some, Result, Ok, Err, refl, sym, ap, subst, arith}
use Rattle.std.proofs.lemmas.Bool.{ltb-false}
use Rattle.std.proofs.lemmas.List.{length-append, length-drop, length-take}
use Rattle.std.proofs.lemmas.List.Concat.{flat_map-cons}
use Rattle.std.specs.List.{flat_map}
use Rattle.std.specs.Prelude.{option_and_then}
use Rattle.trace_base.specs.Number.{num}
use Rattle.trace_base.specs.declared.order.Order.{Order}
use Rattle.dat_options.specs.declared.fault.OpenFault.{OpenFault}
use Rattle.dat_options.specs.declared.fault.OpenFault.TheVariants.{Truncated, NotTrace, BadHeaderPage, BadSection, TooManyCpus}
use Rattle.dat_options.specs.declared.option.Opt.{Opt}
use Rattle.dat_options.specs.Answer.{found_in}
use Rattle.dat_options.specs.Front.{leading_piece, leading_number}
use Rattle.dat_options.specs.Options.{option_text, option_behind, option_at, with_first, options_below, options_at, options_from}
use Rattle.dat_options.proofs.Steps.{some_is, ok_is}
use Rattle.dat_header.specs.declared.header.Header.{Header}
use Rattle.dat_header.specs.declared.header.System.{System}
use Rattle.dat_header.specs.Found.{Found, ◌>>=◌, or_wrong}
use Rattle.dat_header.specs.Opening.{version_at, machine_at, page_text_at, opening_at, described_at}
use Rattle.dat_header.specs.Header.{carried_at, last_word_at, first_word_in, first_word_at, body_at, behind_options_at, behind_first_at, sections_at, joined, header_of}
use Rattle.dat_header.specs.Items.{magic_word, page_word, event_word, body_words, sized, sized_texts, system_text}
use Rattle.dat_header.specs.ItemsAt.{word_at, bytes_at, number_at, value_at, text_at, row_at, formats_at, before_nul, name_at, system_at, systems_at, cpus_of}
use Rattle.dat_header.specs.PageText.{layout_of}
use Rattle.dat_header.specs.Refusal.{begins_with}
use Rattle.dat_header.specs.Written.{section_len}
use Rattle.dat_header.proofs.Grammar.{found_value, same_value}
use Rattle.dat_header.proofs.Wrapped.{length-sized, length-option_text, length-system_text}

-- ONE STEP AFTER ANOTHER

then_is : {V W : Type 0} (first : Result V OpenFault) (next : V → Result W OpenFault) (w : W) → (first >>= next) ≡ Ok w → (v : V) × (first ≡ Ok v) × (next v ≡ Ok w)
then_is (Ok v) next w e = (v, refl, e)
then_is (Err fault) next w e = cc

-- the same for a long row of steps, whose values are variables then
after : {V W : Type 0} (first : Result V OpenFault) (next : V → Result W OpenFault) (w : W) (P : Type 0) → (first >>= next) ≡ Ok w
    → ((v : V) → first ≡ Ok v → next v ≡ Ok w → P) → P
after (Ok v) next w P e go = go v refl e
after (Err fault) next w P e go = cc

and_then_is : {X Y : Type 0} (found : Option X) (next : X → Option Y) (y : Y) → option_and_then next found ≡ Some y → (x : X) × (found ≡ Some x) × (next x ≡ Some y)
and_then_is None next y e = cc
and_then_is (Some x) next y e = (x, refl, e)

same_of : {V : Type 0} {v w : V} → v ≡ w → (len : V → ℕ) → len v ≡ len w
same_of e len = ap len e

-- a reader goes on by as many bytes as a value of it has
abbrev Takes : {V : Type 0} → (List ℕ → ℕ → Found V) → (V → ℕ) → Type 0
Takes {V} read len = (file : List ℕ) (at : ℕ) (v : V) (end : ℕ) → read file at ≡ Ok (v, end) → at + len v ≤ end

-- BYTES AND NUMBERS

record Piece (size : ℕ) (file : List ℕ) (at : ℕ) (bytes : List ℕ) (end : ℕ) : Type 0 where
  long : length bytes ≡ size
  place : end ≡ at + size
  inside : 0 < size → end ≤ length file

piece_by : (size : ℕ) (file : List ℕ) (at : ℕ) (bytes : List ℕ) (end : ℕ) (short : Bool) → ltb (length (drop at file)) size ≡ short
    → (if short then Err (Truncated (length file)) else found_value (take size (drop at file)) (at + size)) ≡ Ok (bytes, end) → Piece size file at bytes end
piece_by size file at bytes end true test e = cc
piece_by size file at bytes end false test e =
    let same = same_value _ (take size (drop at file)) bytes (at + size) end refl e in
    let enough = ltb-false (length (drop at file)) size test in
    record {
      long = omega (arith, ap length (same.0), enough, length-take size (drop at file));
      place = sym (same.1);
      inside = λ some. omega (arith, same.1, enough, length-drop at file, some);
    }

bytes_piece : (size : ℕ) (file : List ℕ) (at : ℕ) (bytes : List ℕ) (end : ℕ) → bytes_at size file at ≡ Ok (bytes, end) → Piece size file at bytes end
unfolding bytes_at
bytes_piece size file at bytes end e = piece_by size file at bytes end (ltb (length (drop at file)) size) refl e

record Number (width : ℕ) (file : List ℕ) (at end : ℕ) : Type 0 where
  place : end ≡ at + width
  inside : 0 < width → end ≤ length file

number_read : (width : ℕ) (order : Order) (file : List ℕ) (at n end : ℕ) → number_at width order file at ≡ Ok (n, end) → Number width file at end
unfolding number_at
number_read width order file at n end e =
    let bytes = then_is (bytes_at width file at) _ (n, end) e in
    let same = same_value _ (num order bytes.0.0) n bytes.0.1 end refl bytes.2 in
    let piece = bytes_piece width file at bytes.0.0 bytes.0.1 bytes.1 in
    record { place = omega (arith, same.1, piece.place); inside = λ some. omega (arith, same.1, piece.inside some) }

value_read : {V : Type 0} (width : ℕ) (order : Order) (value_of : ℕ → Option V) (wrong : OpenFault) (file : List ℕ) (at : ℕ) (v : V) (end : ℕ)
    → value_at width order value_of wrong file at ≡ Ok (v, end) → Number width file at end
unfolding value_at
value_read width order value_of wrong file at v end e =
    let number = then_is (number_at width order file at) _ (v, end) e in
    let value = then_is (or_wrong wrong (value_of number.0.0)) _ (v, end) number.2 in
    let same = same_value _ value.0 v number.0.1 end refl value.2 in
    let read = number_read width order file at number.0.0 number.0.1 number.1 in
    record { place = omega (arith, same.1, read.place); inside = λ some. omega (arith, same.1, read.inside some) }

-- TEXTS AND ROWS

text_takes : (width : ℕ) (order : Order) → Takes (text_at width order) (λ text. length (sized width order text))
unfolding text_at
text_takes width order file at text end e =
    let size = then_is (number_at width order file at) _ (text, end) e in
    let number = number_read width order file at size.0.0 size.0.1 size.1 in
    let piece = bytes_piece size.0.0 file size.0.1 text end size.2 in
    omega (arith, number.place, piece.place, piece.long, length-sized width order text)

row_takes : {V : Type 0} (spell : V → List ℕ) (item_at : List ℕ → ℕ → Found V) → Takes item_at (λ v. length (spell v)) → (count : ℕ) → Takes (row_at item_at count) (λ vs. length (flat_map spell vs))
unfolding row_at
row_takes spell item_at takes zero file at items end e =
    let same = same_value _ [] items at end refl e in
    omega (arith, ap (λ vs. length (flat_map spell vs)) (same.0), same.1)
row_takes spell item_at takes (suc count) file at items end e =
    let first = then_is (item_at file at) _ (items, end) e in
    let others = then_is (row_at item_at count file first.0.1) _ (items, end) first.2 in
    let same = same_value _ (first.0.0 ∷ others.0.0) items others.0.1 end refl others.2 in
    omega (
      arith,
      ap (λ vs. length (flat_map spell vs)) (same.0),
      same.1,
      ap length (flat_map-cons spell first.0.0 others.0.0),
      length-append (spell first.0.0) (flat_map spell others.0.0),
      takes file at first.0.0 first.0.1 first.1,
      row_takes spell item_at takes count file first.0.1 others.0.0 others.0.1 others.1,
    )

formats_takes : (order : Order) → Takes (formats_at order) (λ formats. 4 + length (sized_texts order formats))
unfolding formats_at
formats_takes order file at formats end e =
    let count = then_is (number_at 4 order file at) _ (formats, end) e in
    let number = number_read 4 order file at count.0.0 count.0.1 count.1 in
    omega (arith, number.place, row_takes (sized 8 order) (text_at 8 order) (text_takes 8 order) count.0.0 file count.0.1 formats end count.2)

name_takes : Takes name_at (λ name. length name + 1)
unfolding name_at
name_takes file at name end e =
    let found = then_is (or_wrong (Truncated (length file)) (before_nul (drop at file))) _ (name, end) e in
    let same = same_value _ found.0 name (at + length found.0 + 1) end refl found.2 in
    omega (arith, ap length (same.0), same.1)

abbrev system_of : List ℕ → List (List ℕ) → System
system_of name formats = record { name = name; formats = formats }

system_takes : (order : Order) → Takes (system_at order) (λ system. length (system_text order system))
unfolding system_at
system_takes order file at system end e =
    let name = then_is (name_at file at) _ (system, end) e in
    let formats = then_is (formats_at order file name.0.1) _ (system, end) name.2 in
    let same = same_value _ (system_of name.0.0 formats.0.0) system formats.0.1 end refl formats.2 in
    omega (
      arith,
      ap (λ (s : System). length (system_text order s)) (same.0),
      same.1,
      length-system_text order (system_of name.0.0 formats.0.0),
      name_takes file at name.0.0 name.0.1 name.1,
      formats_takes order file name.0.1 formats.0.0 formats.0.1 formats.1,
    )

systems_takes : (order : Order) → Takes (systems_at order) (λ systems. length (flat_map (system_text order) systems))
unfolding systems_at
systems_takes order file at systems end e =
    let count = then_is (number_at 4 order file at) _ (systems, end) e in
    let number = number_read 4 order file at count.0.0 count.0.1 count.1 in
    omega (arith, number.place, row_takes (system_text order) (system_at order) (system_takes order) count.0.0 file count.0.1 systems end count.2)

-- OPTIONS

piece_left : (size : ℕ) (bytes : List ℕ) (found : List ℕ × List ℕ) (short : Bool) → ltb (length bytes) size ≡ short
    → cond short None (Some (take size bytes, drop size bytes)) ≡ Some found → (length found.0 ≡ size) × (size + length found.1 ≤ length bytes)
piece_left size bytes found true test e = cc
piece_left size bytes found false test e =
    let parts : List ℕ × List ℕ = (take size bytes, drop size bytes) in
    let same : parts ≡ found = some_is parts found e in
    let P : List ℕ × List ℕ → Type 0 = λ f. (length f.0 ≡ size) × (size + length f.1 ≤ length bytes) in
    let enough = ltb-false (length bytes) size test in
    let here : P parts = (omega (arith, enough, length-take size bytes), omega (arith, enough, length-drop size bytes)) in
    subst P same here

leading_left : (size : ℕ) (bytes : List ℕ) (found : List ℕ × List ℕ) → leading_piece size bytes ≡ Some found → (length found.0 ≡ size) × (size + length found.1 ≤ length bytes)
unfolding leading_piece
leading_left size bytes found e = piece_left size bytes found (ltb (length bytes) size) refl e

number_left : (order : Order) (width : ℕ) (bytes : List ℕ) (found : ℕ × List ℕ) → leading_number order width bytes ≡ Some found → width + length found.1 ≤ length bytes
unfolding leading_number
number_left order width bytes found e =
    let piece = and_then_is (leading_piece width bytes) _ found e in
    let parts : ℕ × List ℕ = (num order piece.0.0, piece.0.1) in
    let same : parts ≡ found = some_is parts found piece.2 in
    omega (arith, (leading_left width bytes piece.0 piece.1).1, ap (λ (f : ℕ × List ℕ). length f.1) same)

abbrev option_len : Order → Option Opt → ℕ
option_len order None = 0
option_len order (Some option) = length (option_text order option)

abbrev option_and_rest : Order → Option Opt × List ℕ → ℕ
option_and_rest order found = option_len order found.0 + length found.1

behind_left : (order : Order) (id : ℕ) (bytes : List ℕ) (found : Option Opt × List ℕ) → option_behind order id bytes ≡ Some found → option_and_rest order found ≤ 2 + length bytes
unfolding option_behind
behind_left order id bytes found e =
    let size = and_then_is (leading_number order 4 bytes) _ found e in
    let content = and_then_is (leading_piece size.0.0 size.0.1) _ found size.2 in
    let option : Opt = record { id = id; bytes = content.0.0 } in
    let parts : Option Opt × List ℕ = (Some option, content.0.1) in
    let same : parts ≡ found = some_is parts found content.2 in
    let left = leading_left size.0.0 size.0.1 content.0 content.1 in
    omega (arith, ap (option_and_rest order) same, length-option_text order option, number_left order 4 bytes size.0 size.1, left.0, left.1)

option_by : (order : Order) (id : ℕ) (bytes : List ℕ) (found : Option Opt × List ℕ) (last : Bool) → cond last (Some (None, bytes)) (option_behind order id bytes) ≡ Some found
    → option_and_rest order found ≤ 2 + length bytes
option_by order id bytes found true e =
    let parts : Option Opt × List ℕ = (None, bytes) in
    let same : parts ≡ found = some_is parts found e in
    omega (arith, ap (option_and_rest order) same)
option_by order id bytes found false e = behind_left order id bytes found e

option_left : (order : Order) (bytes : List ℕ) (found : Option Opt × List ℕ) → option_at order bytes ≡ Some found → option_and_rest order found ≤ length bytes
unfolding option_at
option_left order bytes found e =
    let id = and_then_is (leading_number order 2 bytes) _ found e in
    omega (arith, number_left order 2 bytes id.0 id.1, option_by order id.0.0 id.0.1 found (eqb id.0.0 0) id.2)

abbrev options_and_rest : Order → List Opt × List ℕ → ℕ
options_and_rest order found = length (flat_map (option_text order) found.0) + length found.1

with_first_left : (order : Order) (first : Option Opt) (rest : List ℕ) (more : Option (List Opt × List ℕ)) (found : List Opt × List ℕ)
    → ((others : List Opt × List ℕ) → more ≡ Some others → options_and_rest order others ≤ length rest)
    → with_first first rest more ≡ Some found → options_and_rest order found ≤ option_len order first + length rest
with_first_left order None rest more found left e =
    let parts : List Opt × List ℕ = ([], rest) in
    let same : parts ≡ found = some_is parts found e in
    omega (arith, ap (options_and_rest order) same)
with_first_left order (Some option) rest None found left e = cc
with_first_left order (Some option) rest (Some others) found left e =
    let parts : List Opt × List ℕ = (option ∷ others.0, others.1) in
    let same : parts ≡ found = some_is parts found e in
    omega (
      arith,
      ap (options_and_rest order) same,
      ap length (flat_map-cons (option_text order) option others.0),
      length-append (option_text order option) (flat_map (option_text order) others.0),
      left others refl,
    )

below_left : (n : ℕ) (order : Order) (bytes : List ℕ) (found : List Opt × List ℕ) → options_below n order bytes ≡ Some found → options_and_rest order found ≤ length bytes
unfolding options_below
below_left zero order bytes found e = cc
below_left (suc n) order bytes found e =
    let first = and_then_is (option_at order bytes) _ found e in
    omega (
      arith,
      option_left order bytes first.0 first.1,
      with_first_left order first.0.0 first.0.1 (options_below n order first.0.1) found (λ others is. below_left n order first.0.1 others is) first.2,
    )

options_left : (order : Order) (bytes : List ℕ) (found : List Opt × List ℕ) → options_at order bytes ≡ Some found → options_and_rest order found ≤ length bytes
unfolding options_at
options_left order bytes found e = below_left (length bytes) order bytes found e

options_by : (order : Order) (at : ℕ) (file : List ℕ) (found : List Opt × ℕ) (past : Bool) (there : Option (List Opt × List ℕ)) → ltb (length file) at ≡ past → options_at order (drop at file) ≡ there
    → found_in file (cond past None there) ≡ Ok found → at + length (flat_map (option_text order) found.0) ≤ length file
options_by order at file found true there test is e = cc
options_by order at file found false None test is e = cc
options_by order at file found false (Some options) test is e =
    let same : options.0 ≡ found.0 = (same_value _ options.0 found.0 _ found.1 refl e).0 in
    omega (
      arith,
      ap (λ (os : List Opt). length (flat_map (option_text order) os)) same,
      ltb-false (length file) at test,
      options_left order (drop at file) options is,
      length-drop at file,
    )

options_inside : (order : Order) (at : ℕ) (file : List ℕ) (found : List Opt × ℕ) → options_from order at file ≡ Ok found → at + length (flat_map (option_text order) found.0) ≤ length file
unfolding options_from
options_inside order at file found e = options_by order at file found (ltb (length file) at) (options_at order (drop at file)) refl refl e

-- THE PIECES OF A HEADER

word_by : (found : Bool) (wrong : OpenFault) (at long end : ℕ) → cond found (Ok (at + long)) (Err wrong) ≡ Ok end → at ≤ end
word_by true wrong at long end e = let same : at + long ≡ end = cc in omega (arith, same)
word_by false wrong at long end e = cc

word_goes_on : (word : List ℕ) (wrong : OpenFault) (file : List ℕ) (at end : ℕ) → word_at word wrong file at ≡ Ok end → at ≤ end
unfolding word_at
word_goes_on word wrong file at end e = word_by (begins_with (drop at file) word) _ at (length word) end e

page_text_takes : (order : Order) (long page : ℕ) → Takes (page_text_at (record { order = order; long = long; page = page })) (λ text. length text.text)
unfolding page_text_at
page_text_takes order long page file at text end e =
    let size = then_is (number_at 8 order file at) _ (text, end) e in
    let content = then_is (bytes_at size.0.0 file size.0.1) _ (text, end) size.2 in
    let layout = then_is (or_wrong (BadHeaderPage size.0.1) (layout_of order long page content.0.0)) _ (text, end) content.2 in
    let same = same_value _ _ text content.0.1 end refl layout.2 in
    let piece = bytes_piece size.0.0 file size.0.1 content.0.0 content.0.1 content.1 in
    omega (
      arith,
      same_of (same.0) (λ t. length t.text),
      same.1,
      (number_read 8 order file at size.0.0 size.0.1 size.1).place,
      piece.long,
      piece.place,
    )

-- a reader from the file's front goes on by as many bytes as a value of it has
abbrev TakesFirst : {V : Type 0} → (List ℕ → ℕ → Found V) → (V → ℕ) → Type 0
TakesFirst {V} read len = (file : List ℕ) (v : V) (end : ℕ) → read file 0 ≡ Ok (v, end) → len v ≤ end

opening_takes : TakesFirst opening_at (λ opening. length opening.page.text)
unfolding opening_at
opening_takes file opening end e =
    after (word_at magic_word (NotTrace 0) file 0) _ (opening, end) _ e (λ version magic_is e_magic.
    after (version_at file version) _ (opening, end) _ e_magic (λ at_order version_is e_version.
    after (machine_at file at_order) _ (opening, end) _ e_version (λ machine machine_is e_machine.
    after (word_at page_word (BadSection machine.1) file machine.1) _ (opening, end) _ e_machine (λ at_page page_word_is e_page_word.
    after (page_text_at machine.0 file at_page) _ (opening, end) _ e_page_word (λ page page_is e_page.
    after (word_at event_word (BadSection page.1) file page.1) _ (opening, end) _ e_page (λ at_event event_word_is e_event_word.
    let same = same_value _ _ opening at_event end refl e_event_word in
    omega (
      arith,
      same_of (same.0) (λ o. length o.page.text),
      same.1,
      page_text_takes machine.0.order machine.0.long machine.0.page file at_page page.0 page.1 page_is,
      word_goes_on event_word (BadSection page.1) file page.1 at_event event_word_is,
    )))))))

described_takes : (order : Order) → Takes (described_at order) (λ texts. length texts.event_text + length (sized_texts order texts.ftrace) + length (flat_map (system_text order) texts.systems) + length texts.kallsyms + length texts.printk)
unfolding described_at
described_takes order file at texts end e =
    let event_text = then_is (text_at 8 order file at) _ (texts, end) e in
    let ftrace = then_is (formats_at order file event_text.0.1) _ (texts, end) event_text.2 in
    let systems = then_is (systems_at order file ftrace.0.1) _ (texts, end) ftrace.2 in
    let kallsyms = then_is (text_at 4 order file systems.0.1) _ (texts, end) systems.2 in
    let printk = then_is (text_at 4 order file kallsyms.0.1) _ (texts, end) kallsyms.2 in
    let same = same_value _ _ texts printk.0.1 end refl printk.2 in
    omega (
      arith,
      same_of (same.0) (λ t. length t.event_text + length (sized_texts order t.ftrace) + length (flat_map (system_text order) t.systems) + length t.kallsyms + length t.printk),
      same.1,
      length-sized 8 order event_text.0.0,
      length-sized 4 order kallsyms.0.0,
      length-sized 4 order printk.0.0,
      text_takes 8 order file at event_text.0.0 event_text.0.1 event_text.1,
      formats_takes order file event_text.0.1 ftrace.0.0 ftrace.0.1 ftrace.1,
      systems_takes order file ftrace.0.1 systems.0.0 systems.0.1 systems.1,
      text_takes 4 order file systems.0.1 kallsyms.0.0 kallsyms.0.1 kallsyms.1,
      text_takes 4 order file kallsyms.0.1 printk.0.0 printk.0.1 printk.1,
    )

carried_takes : (order : Order) → Takes (carried_at order) (λ texts. length texts.described.event_text + length (sized_texts order texts.described.ftrace) + length (flat_map (system_text order) texts.described.systems) + length texts.described.kallsyms + length texts.described.printk + length texts.cmdlines)
unfolding carried_at
carried_takes order file at texts end e =
    let described = then_is (described_at order file at) _ (texts, end) e in
    let cmdlines = then_is (text_at 8 order file described.0.1) _ (texts, end) described.2 in
    let same = same_value _ _ texts cmdlines.0.1 end refl cmdlines.2 in
    omega (
      arith,
      same_of (same.0) (λ t. length t.described.event_text + length (sized_texts order t.described.ftrace) + length (flat_map (system_text order) t.described.systems) + length t.described.kallsyms + length t.described.printk + length t.cmdlines),
      same.1,
      length-sized 8 order cmdlines.0.0,
      described_takes order file at described.0.0 described.0.1 described.1,
      text_takes 8 order file described.0.1 cmdlines.0.0 cmdlines.0.1 cmdlines.1,
    )

-- a reader that ends inside the file has read this many bytes, but for twelve
abbrev Holds : {V : Type 0} → Found V → ℕ → ℕ → (V → ℕ) → Type 0
Holds {V} found at whole len = (v : V) (end : ℕ) → found ≡ Ok (v, end) → at + len v ≤ whole + 12

options_hold : (order : Order) (cpus : ℕ) (file : List ℕ) (at : ℕ) → Holds (behind_options_at order cpus file at) at (length file) (λ sections. section_len order sections.options)
unfolding behind_options_at
options_hold order cpus file at sections end e =
    let options = then_is (options_from order at file) _ (sections, end) e in
    let last = then_is (last_word_at body_words file options.0.1) _ (sections, end) options.2 in
    let body = then_is (body_at order cpus last.0.0 file last.0.1) _ (sections, end) last.2 in
    let same = same_value _ _ sections body.0.1 end refl body.2 in
    omega (arith, same_of (same.0) (λ s. section_len order s.options), options_inside order at file options.0 options.1)

sections_hold : (order : Order) (cpus : ℕ) (file : List ℕ) (at : ℕ) → at ≤ length file → Holds (sections_at order cpus file at) at (length file) (λ sections. section_len order sections.options)
unfolding sections_at first_word_at
sections_hold order cpus file at within sections end e =
    let first = then_is (first_word_at file at) _ (sections, end) e in
    let word = then_is (first_word_in at (drop at file) (length file)) _ first.0 first.1 in
    let after = (same_value _ word.0 first.0.0 (at + 10) first.0.1 refl word.2).1 in
    elim first.0.0 as (λ f. behind_first_at order cpus f file first.0.1 ≡ Ok (sections, end) → at + section_len order sections.options ≤ length file + 12) [
      | None ↦ λ is. omega (arith, after, options_hold order cpus file first.0.1 sections end is)
      | Some last ↦ λ is.
          let body = then_is (body_at order cpus last file first.0.1) _ (sections, end) is in
          omega (arith, within, same_of ((same_value _ _ sections body.0.1 end refl body.2).0) (λ s. section_len order s.options))
    ] first.2

-- how long the texts and the options of a header are
abbrev pub content_len : Header → ℕ
content_len header =
    (length header.page_text + length header.event_text + length header.kallsyms + length header.printk + length header.cmdlines)
    + (length (sized_texts header.order header.ftrace) + length (flat_map (system_text header.order) header.systems) + section_len header.order header.options)

summed : (page_text event_text ftrace systems kallsyms printk cmdlines options at_event at_cpus after whole : ℕ) → page_text ≤ at_event
    → at_event + (event_text + ftrace + systems + kallsyms + printk + cmdlines) ≤ at_cpus → after ≡ at_cpus + 4 → after + options ≤ whole + 12
    → (page_text + event_text + kallsyms + printk + cmdlines) + (ftrace + systems + options) ≤ whole + 12
summed page_text event_text ftrace systems kallsyms printk cmdlines options at_event at_cpus after whole a b c d = omega arith

within_file : {file : List ℕ} {at end : ℕ} → Number 4 file at end → end ≤ length file
within_file number = number.inside (omega arith)

pub header_inside : (file : List ℕ) (header : Header) → header_of file ≡ Ok header → content_len header ≤ length file + 12
unfolding header_of
header_inside file header e =
    after (opening_at file 0) _ header _ e (λ opening opening_is e_opening.
    let order = opening.0.machine.order in
    after (carried_at order file opening.1) _ header _ e_opening (λ carried carried_is e_carried.
    after (value_at 4 order cpus_of (TooManyCpus carried.1) file carried.1) _ header _ e_carried (λ cpus cpus_is e_cpus.
    after (sections_at order cpus.0 file cpus.1) _ header _ e_cpus (λ sections sections_is e_sections.
    let number = value_read 4 order cpus_of (TooManyCpus carried.1) file carried.1 cpus.0 cpus.1 cpus_is in
    let whole = joined opening.0 carried.0 cpus.0 sections.0 sections.1 in
    subst (λ (h : Header). content_len h ≤ length file + 12) (ok_is (Ok whole) whole header refl e_sections)
    (summed _ _ _ _ _ _ _ _ _ _ _ _
    (opening_takes file opening.0 opening.1 opening_is)
    (carried_takes order file opening.1 carried.0 carried.1 carried_is)
    number.place
    (sections_hold order cpus.0 file cpus.1 (within_file number) sections.0 sections.1 sections_is))))))
