-- How long a header is, counted modulo 2^64.
use Rattle.std.proofs.Common.{◌≡◌, ℕ, ◌+◌, ◌*◌, ◌%◌, ◌^◌, ◌<◌, ◌≤◌, List, [], ◌∷◌, ◌++◌, length, take, drop, get_or, Option, None, Some, refl, sym, ap, ◌∙◌, arith}
use Rattle.std.proofs.Math.Nat.{mod-add-mod}
use Rattle.std.proofs.lemmas.List.{length-append, append-nil, take_more, take_all}
use Rattle.std.proofs.lemmas.List.Concat.{flat_map-cons}
use Rattle.std.proofs.lemmas.Grind.{flat_map-append}
use Rattle.std.specs.List.{flat_map}
use Rattle.trace_base.specs.Number.{bytes_of}
use Rattle.trace_base.specs.declared.order.Order.{Order}
use Rattle.trace_base.specs.declared.part.Part.{Part}
use Rattle.dat_options.specs.declared.option.Opt.{Opt}
use Rattle.dat_options.specs.Options.{option_text, options_text}
use Rattle.dat_options.specs.Table.{table_text}
use Rattle.dat_options.proofs.Numbers.{length-bytes_of}
use Rattle.dat_options.proofs.TableLaws.{length-table_text}
use Rattle.dat_options.proofs.OptionsLaws.{length-options_text}
use Rattle.dat_header.specs.declared.header.Header.{Header}
use Rattle.dat_header.specs.declared.header.System.{System}
use Rattle.dat_header.specs.Items.{magic_word, version_word, page_word, event_word, options_word, fly_word, order_byte, sized, sized_texts, formats_text, system_text, systems_text, items, text}
use Rattle.dat_header.specs.Written.{section_len, options_section, with_parts, header_text, text_before_table}
use Rattle.dat_header.proofs.Written.{front_text, texts_text, end_text, whole_text, held_text}

-- what is left of a number in 64 bits
abbrev pub wrapped : ℕ → ℕ
wrapped number = number % 2 ^ 64

pub wrap_left : (a b : ℕ) → wrapped (wrapped a + b) ≡ wrapped (a + b)
wrap_left a b = mod-add-mod a (2 ^ 64) b

pub wrap_right : (a b : ℕ) → wrapped (a + wrapped b) ≡ wrapped (a + b)
wrap_right a b = ap wrapped (let e : a + wrapped b ≡ wrapped b + a = omega arith in e) ∙ wrap_left b a ∙ ap wrapped (let e : b + a ≡ a + b = omega arith in e)

pub wrap_both : (a b : ℕ) → wrapped (wrapped a + wrapped b) ≡ wrapped (a + b)
wrap_both a b = wrap_left a (wrapped b) ∙ wrap_right a b

-- one item more of a row
pub row_longer : {X : Type 0} (f : X → List ℕ) (xs : List X) (i : ℕ) (x : X) → i < length xs → x ≡ get_or xs i x → length (flat_map f (take (i + 1) xs)) ≡ length (flat_map f (take i xs)) + length (f x)
row_longer f xs i x inside is =
    let longer : flat_map f (take (i + 1) xs) ≡ flat_map f (take i xs) ++ f x =
    ap (flat_map f) (take_more xs i x inside) ∙ flat_map-append f (take i xs) (get_or xs i x ∷ [])
    ∙ ap (λ t. flat_map f (take i xs) ++ t) (flat_map-cons f (get_or xs i x) [] ∙ append-nil (f (get_or xs i x)) ∙ ap f (sym is)) in
    ap length longer ∙ length-append (flat_map f (take i xs)) (f x)

pub two_more : (total one two whole : ℕ) → total ≡ wrapped whole → wrapped (wrapped (total + one) + two) ≡ wrapped (whole + (one + two))
two_more total one two whole is =
    wrap_left (total + one) two ∙ ap (λ (n : ℕ). wrapped (n + one + two)) is ∙ ap wrapped (let e : wrapped whole + one + two ≡ wrapped whole + (one + two) = omega arith in e) ∙ wrap_left whole (one + two)

pub length-sized : (width : ℕ) (order : Order) (content : List ℕ) → length (sized width order content) ≡ width + length content
length-sized width order content = omega (arith, length-append (bytes_of order width (length content)) content, length-bytes_of order width (length content))

pub texts_more : (order : Order) (texts : List (List ℕ)) (i : ℕ) (content bytes : List ℕ) (total : ℕ) → i < length texts → content ≡ get_or texts i content → bytes ≡ content
    → total ≡ wrapped (length (sized_texts order (take i texts))) → wrapped (wrapped (total + 8) + length bytes) ≡ wrapped (length (sized_texts order (take (i + 1) texts)))
texts_more order texts i content bytes total inside is same so_far =
    two_more total 8 (length bytes) (length (sized_texts order (take i texts))) so_far
    ∙ ap wrapped (let e : length (sized_texts order (take i texts)) + (8 + length bytes) ≡ length (sized_texts order (take (i + 1) texts)) =
    omega (arith, row_longer (sized 8 order) texts i content inside is, length-sized 8 order content, ap length same) in e)

pub length-option_text : (order : Order) (option : Opt) → length (option_text order option) ≡ 6 + length option.bytes
length-option_text order option = omega (
  arith,
  length-append (bytes_of order 2 option.id) (bytes_of order 4 (length option.bytes) ++ option.bytes),
  length-append (bytes_of order 4 (length option.bytes)) option.bytes,
  length-bytes_of order 2 option.id,
  length-bytes_of order 4 (length option.bytes),
)

pub options_more : (order : Order) (options : List Opt) (i : ℕ) (option : Opt) (bytes : List ℕ) (total : ℕ) → i < length options → option ≡ get_or options i option → bytes ≡ option.bytes
    → total ≡ wrapped (length (flat_map (option_text order) (take i options))) → wrapped (wrapped (total + 6) + length bytes) ≡ wrapped (length (flat_map (option_text order) (take (i + 1) options)))
options_more order options i option bytes total inside is same so_far =
    two_more total 6 (length bytes) (length (flat_map (option_text order) (take i options))) so_far
    ∙ ap wrapped (let e : length (flat_map (option_text order) (take i options)) + (6 + length bytes) ≡ length (flat_map (option_text order) (take (i + 1) options)) =
    omega (arith, row_longer (option_text order) options i option inside is, length-option_text order option, ap length same) in e)

pub length-system_text : (order : Order) (system : System) → length (system_text order system) ≡ length system.name + 5 + length (sized_texts order system.formats)
length-system_text order system = omega (
  arith,
  length-append system.name (0 ∷ formats_text order system.formats),
  length-append (bytes_of order 4 (length system.formats)) (sized_texts order system.formats),
  length-bytes_of order 4 (length system.formats),
)

pub systems_more : (order : Order) (systems : List System) (i : ℕ) (system : System) (name : List ℕ) (formats : List (List ℕ)) (size total : ℕ) → i < length systems → system ≡ get_or systems i system
    → name ≡ system.name → formats ≡ system.formats → size ≡ wrapped (length (sized_texts order formats)) → total ≡ wrapped (length (flat_map (system_text order) (take i systems)))
    → wrapped (wrapped (wrapped (total + length name) + 5) + size) ≡ wrapped (length (flat_map (system_text order) (take (i + 1) systems)))
systems_more order systems i system name formats size total inside is same alike counted so_far =
    ap (λ (n : ℕ). wrapped (n + size)) (two_more total (length name) 5 (length (flat_map (system_text order) (take i systems))) so_far)
    ∙ ap (λ (n : ℕ). wrapped (wrapped (length (flat_map (system_text order) (take i systems)) + (length name + 5)) + n)) counted
    ∙ wrap_both (length (flat_map (system_text order) (take i systems)) + (length name + 5)) (length (sized_texts order formats))
    ∙ ap wrapped (let e : length (flat_map (system_text order) (take i systems)) + (length name + 5) + length (sized_texts order formats) ≡ length (flat_map (system_text order) (take (i + 1) systems)) =
    omega (arith, row_longer (system_text order) systems i system inside is, length-system_text order system, ap length same, ap (λ (fs : List (List ℕ)). length (sized_texts order fs)) alike) in e)

pub row_whole : {X : Type 0} (f : X → List ℕ) (xs : List X) (i total : ℕ) → length xs ≤ i → total ≡ wrapped (length (flat_map f (take i xs))) → total ≡ wrapped (length (flat_map f xs))
row_whole f xs i total all so_far = so_far ∙ ap (λ ys. wrapped (length (flat_map f ys))) (take_all i xs all)

front_len : (header : Header) → length (text (take 7 (items header))) ≡ 38 + length header.page_text
front_len header =
    let page = bytes_of header.order 4 header.page in
    let head = magic_word ++ (version_word ++ (order_byte header.order ∷ header.long ∷ (page ++ page_word))) in
    let long : length head ≡ 14 + length (page ++ page_word) = omega arith in
    omega (
      arith,
      long,
      ap length (sym (front_text header)),
      length-append head (sized 8 header.order header.page_text),
      length-append page page_word,
      length-bytes_of header.order 4 header.page,
      length-sized 8 header.order header.page_text,
    )

formats_len : (order : Order) (formats : List (List ℕ)) → length (formats_text order formats) ≡ 4 + length (sized_texts order formats)
formats_len order formats = omega (arith, length-append (bytes_of order 4 (length formats)) (sized_texts order formats), length-bytes_of order 4 (length formats))

systems_len : (order : Order) (systems : List System) → length (systems_text order systems) ≡ 4 + length (flat_map (system_text order) systems)
systems_len order systems = omega (arith, length-append (bytes_of order 4 (length systems)) (flat_map (system_text order) systems), length-bytes_of order 4 (length systems))

texts_len : (header : Header) → length (text (take 7 (drop 7 (items header))))
    ≡ 45 + length header.event_text + length (sized_texts header.order header.ftrace) + length (flat_map (system_text header.order) header.systems) + length header.kallsyms + length header.printk + length header.cmdlines
texts_len header =
    let order = header.order in
    let one = sized 4 order header.printk ++ sized 8 order header.cmdlines in
    let two = sized 4 order header.kallsyms ++ one in
    let three = systems_text order header.systems ++ two in
    let four = formats_text order header.ftrace ++ three in
    let five = sized 8 order header.event_text ++ four in
    omega (
      arith,
      ap length (sym (texts_text header)),
      length-append event_word five,
      length-append (sized 8 order header.event_text) four,
      length-append (formats_text order header.ftrace) three,
      length-append (systems_text order header.systems) two,
      length-append (sized 4 order header.kallsyms) one,
      length-append (sized 4 order header.printk) (sized 8 order header.cmdlines),
      length-sized 8 order header.event_text,
      formats_len order header.ftrace,
      systems_len order header.systems,
      length-sized 4 order header.kallsyms,
      length-sized 4 order header.printk,
      length-sized 8 order header.cmdlines,
    )

section_is : (order : Order) (options : Option (List Opt)) → length (options_section order options) ≡ section_len order options
section_is order None = refl
section_is order (Some options) = omega (arith, length-append options_word (options_text order options), length-options_text order options)

end_len : (header : Header) (parts : List Part) → length (text (drop 14 (items (with_parts header parts)))) ≡ 14 + section_len header.order header.options + 16 * length parts
end_len header parts =
    let order = header.order in
    omega (
      arith,
      ap length (sym (end_text header parts)),
      length-append (bytes_of order 4 header.cpus) (options_section order header.options ++ (fly_word ++ table_text order parts)),
      length-bytes_of order 4 header.cpus,
      length-append (options_section order header.options) (fly_word ++ table_text order parts),
      section_is order header.options,
      length-append fly_word (table_text order parts),
      length-table_text order parts,
    )

-- the length of the whole
pub length-header_text : (header : Header) (parts : List Part) → length (header_text header parts)
    ≡ 97 + (length header.page_text + length header.event_text + length header.kallsyms + length header.printk + length header.cmdlines)
    + (length (sized_texts header.order header.ftrace) + length (flat_map (system_text header.order) header.systems) + section_len header.order header.options) + 16 * length parts
length-header_text header parts =
    let middle = text (take 7 (drop 7 (items header))) in
    let last = text (drop 14 (items (with_parts header parts))) in
    omega (arith, ap length (sym (whole_text header parts)), length-append (text (take 7 (items header))) (middle ++ last), length-append middle last, front_len header, texts_len header, end_len header parts)

pub header_len_is : (header : Header) (parts : List Part) (texts lists cpus : ℕ) → length parts ≡ cpus
    → texts ≡ wrapped (length header.page_text + length header.event_text + length header.kallsyms + length header.printk + length header.cmdlines)
    → lists ≡ wrapped (length (sized_texts header.order header.ftrace) + length (flat_map (system_text header.order) header.systems) + section_len header.order header.options)
    → wrapped (wrapped (wrapped (97 + texts) + lists) + 16 * cpus) ≡ wrapped (length (header_text header parts))
header_len_is header parts texts lists cpus each one two =
    let a = length header.page_text + length header.event_text + length header.kallsyms + length header.printk + length header.cmdlines in
    let b = length (sized_texts header.order header.ftrace) + length (flat_map (system_text header.order) header.systems) + section_len header.order header.options in
    ap (λ (n : ℕ). wrapped (wrapped (wrapped (97 + n) + lists) + 16 * cpus)) one
    ∙ ap (λ (n : ℕ). wrapped (wrapped (n + lists) + 16 * cpus)) (wrap_right 97 a)
    ∙ ap (λ (n : ℕ). wrapped (wrapped (wrapped (97 + a) + n) + 16 * cpus)) two
    ∙ ap (λ (n : ℕ). wrapped (n + 16 * cpus)) (wrap_both (97 + a) b)
    ∙ wrap_left (97 + a + b) (16 * cpus)
    ∙ ap wrapped (let e : 97 + a + b + 16 * cpus ≡ length (header_text header parts) = omega (arith, length-header_text header parts, each) in e)

-- the same, where the text in front of the table is held
pub held_len_is : (header : Header) (before bytes : List ℕ) (parts : List Part) (cpus : ℕ) → before ≡ text_before_table header → bytes ≡ before → length parts ≡ cpus
    → wrapped (length bytes + 16 * cpus) ≡ wrapped (length (header_text header parts))
held_len_is header before bytes parts cpus is same each =
    let table = table_text header.order parts in
    ap wrapped (let e : length bytes + 16 * cpus ≡ length (header_text header parts) =
    omega (arith, ap length (held_text header before bytes parts is same), length-append bytes table, length-table_text header.order parts, each) in e)
