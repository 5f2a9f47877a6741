-- One piece written after another.
use Rattle.std.proofs.Common.{◌≡◌, ℕ, ◌+◌, ◌<◌, ◌≤◌, List, [], ◌∷◌, ◌++◌, length, take, drop, get_or, Option, None, Some, Result, Ok, Err, OnOk, OnErr, IfSome, not, refl, sym, ap, subst, ◌∙◌, append_assoc, arith}
use Rattle.std.proofs.lemmas.List.{append-nil, take_more, take-append-drop, take_all, drop-drop}
use Rattle.std.proofs.lemmas.List.Concat.{flat_map-cons}
use Rattle.std.proofs.lemmas.Grind.{flat_map-append}
use Rattle.std.proofs.lemmas.List.Elements.{All-filter, All-push}
use Rattle.std.specs.List.{All, filter, flat_map}
use Rattle.trace_outside.specs.declared.outside.Sink as sink
use Rattle.trace_outside.specs.Causes.{HasCause}
use Rattle.trace_outside.specs.Writing.{Gained, GainedPrefix}
use Rattle.trace_outside.proofs.Gains.{gained_both, prefix_behind, prefix_of_parts, gained_nothing}
use Rattle.dat_options.proofs.Steps.{some_is}
use Rattle.dat_options.proofs.Writes.{prefix_in_front}
use Rattle.trace_base.specs.Number.{bytes_of}
use Rattle.trace_base.specs.declared.order.Order.{Order}
use Rattle.trace_base.specs.declared.part.Part.{Part}
use Rattle.dat_options.specs.declared.option.Opt.{Opt}
use Rattle.dat_options.specs.Options.{IsOption, options_text}
use Rattle.dat_options.specs.Table.{table_text}
use Rattle.dat_header.specs.declared.header.Header.{Header}
use Rattle.dat_header.specs.declared.header.System.{System}
use Rattle.dat_header.specs.declared.header.Body.TheVariants.{Fly}
use Rattle.dat_header.specs.Items.{Item, system_text, magic_word, version_word, page_word, event_word, options_word, fly_word, order_byte, sized, formats_text, systems_text, section_items, items, text}
use Rattle.dat_header.specs.Written.{Writes, options_section, is_instance, with_parts, header_text, text_before_table}

-- by the clauses of a call that writes
pub writes_by : {O E : Type 0} {o : sink.Ghosts O} (text : List ℕ) (before now : O) (result : Result (Unit {0}) E) → OnOk result (Gained (o.written before) (o.written now) text) → OnErr result (GainedPrefix (o.written before) (o.written now) text)
    → o.name now ≡ o.name before → HasCause (o.faults before) (o.faults now) result → Writes text o before now result
writes_by text before now result gained prefix name cause = record { gained = gained; prefix = prefix; name = name; later = cause.later; failed = cause.failed; kept = cause.kept }

-- the same text
pub writes_as : {O E : Type 0} {o : sink.Ghosts O} (text other : List ℕ) (before now : O) (result : Result (Unit {0}) E) → text ≡ other → Writes text o before now result → Writes other o before now result
writes_as {O} {E} {o} text other before now result same writes = subst (λ (t : List ℕ). Writes t o before now result) same writes

-- nothing
pub writes_nothing : {O E : Type 0} {o : sink.Ghosts O} (done : Unit {0}) (now : O) → Writes {E = E} [] o now now (Ok done)
writes_nothing {O} {E} {o} done now = record { gained = gained_nothing (o.written now); prefix = tt; name = refl; later = omega arith; failed = tt; kept = refl }

-- a piece, and then another
pub writes_then : {O E : Type 0} {o : sink.Ghosts O} (one two : List ℕ) (before mid now : O) (done : Unit {0}) (result : Result (Unit {0}) E) → Writes {E = E} one o before mid (Ok done) → Writes two o mid now result → Writes (one ++ two) o before now result
writes_then {O} {E} {o} one two before mid now done (Ok last) first second = record {
  gained = gained_both (o.written before) (o.written mid) (o.written now) one two first.gained second.gained;
  prefix = tt;
  name = second.name ∙ first.name;
  later = omega (arith, first.later, second.later);
  failed = tt;
  kept = second.kept ∙ first.kept;
}
writes_then {O} {E} {o} one two before mid now done (Err fault) first second = record {
  gained = tt;
  prefix = prefix_behind (o.written before) (o.written mid) (o.written now) one two [] (one ++ two) (ap (λ back. one ++ back) (sym (append-nil two))) first.gained second.prefix;
  name = second.name ∙ first.name;
  later = omega (arith, first.later, second.later);
  failed = omega (arith, first.later, second.failed);
  kept = tt;
}

-- a piece that failed, and no other after it
pub writes_failed : {O E : Type 0} {o : sink.Ghosts O} (one two : List ℕ) (before now : O) (fault : E) → Writes one o before now (Err fault) → Writes (one ++ two) o before now (Err fault)
writes_failed {O} {E} {o} one two before now fault first = record {
  gained = tt;
  prefix = prefix_in_front (o.written before) (o.written now) one two first.prefix;
  name = first.name;
  later = first.later;
  failed = first.failed;
  kept = tt;
}

-- one item more of a row
pub writes_more : {O E X : Type 0} {o : sink.Ghosts O} (f : X → List ℕ) (xs : List X) (i : ℕ) (x : X) (before mid now : O) (done last : Unit {0}) → i < length xs → x ≡ get_or xs i x
    → Writes {E = E} (flat_map f (take i xs)) o before mid (Ok done) → Writes {E = E} (f x) o mid now (Ok last) → Writes {E = E} (flat_map f (take (i + 1) xs)) o before now (Ok last)
writes_more f xs i x before mid now done last inside is first second =
    let longer : flat_map f (take (i + 1) xs) ≡ flat_map f (take i xs) ++ f x =
    ap (flat_map f) (take_more xs i x inside) ∙ flat_map-append f (take i xs) (get_or xs i x ∷ [])
    ∙ ap (λ t. flat_map f (take i xs) ++ t) (flat_map-cons f (get_or xs i x) [] ∙ append-nil (f (get_or xs i x)) ∙ ap f (sym is)) in
    writes_as _ _ before now (Ok last) (sym longer) (writes_then (flat_map f (take i xs)) (f x) before mid now done (Ok last) first second)

pub writes_row_failed : {O E X : Type 0} {o : sink.Ghosts O} (f : X → List ℕ) (xs : List X) (i : ℕ) (x : X) (before mid now : O) (done : Unit {0}) (fault : E) → i < length xs → x ≡ get_or xs i x
    → Writes {E = E} (flat_map f (take i xs)) o before mid (Ok done) → Writes (f x) o mid now (Err fault) → Writes (flat_map f xs) o before now (Err fault)
writes_row_failed {O} {E} {X} {o} f xs i x before mid now done fault inside is first second =
    let both = writes_then (flat_map f (take i xs)) (f x) before mid now done (Err fault) first second in
    record {
      gained = tt;
      prefix = prefix_of_parts f xs i x (o.written before) (o.written mid) (o.written now) inside first.gained (subst (λ y. GainedPrefix (o.written mid) (o.written now) (f y)) is second.prefix);
      name = both.name;
      later = both.later;
      failed = both.failed;
      kept = tt;
    }

pub writes_row : {O E X : Type 0} {o : sink.Ghosts O} (f : X → List ℕ) (xs : List X) (i : ℕ) (before now : O) (done : Unit {0}) → length xs ≤ i → Writes {E = E} (flat_map f (take i xs)) o before now (Ok done) → Writes {E = E} (flat_map f xs) o before now (Ok done)
writes_row f xs i before now done all writes = writes_as _ _ before now (Ok done) (ap (flat_map f) (take_all i xs all)) writes

-- the text of the pieces from the magic bytes to the header_page text
pub front_text : (header : Header)
    → (magic_word ++ (version_word ++ (order_byte header.order ∷ header.long ∷ (bytes_of header.order 4 header.page ++ page_word)))) ++ sized 8 header.order header.page_text ≡ text (take 7 (items header))
unfolding items
front_text header =
    let page = bytes_of header.order 4 header.page in
    let content = sized 8 header.order header.page_text in
    ap (λ (t : List ℕ). magic_word ++ (version_word ++ (order_byte header.order ∷ header.long ∷ t))) (append_assoc page page_word content ∙ ap (λ (t : List ℕ). page ++ (page_word ++ t)) (sym (append-nil content)))

pub front_by : (header : Header) (order : ℕ) (page : List ℕ) → order ≡ order_byte header.order → page ≡ bytes_of header.order 4 header.page
    → (magic_word ++ (version_word ++ (order ∷ header.long ∷ (page ++ page_word)))) ++ sized 8 header.order header.page_text ≡ text (take 7 (items header))
front_by header order page one two =
    ap (λ (n : ℕ). (magic_word ++ (version_word ++ (n ∷ header.long ∷ (page ++ page_word)))) ++ sized 8 header.order header.page_text) one
    ∙ ap (λ (t : List ℕ). (magic_word ++ (version_word ++ (order_byte header.order ∷ header.long ∷ (t ++ page_word)))) ++ sized 8 header.order header.page_text) two
    ∙ front_text header

-- the text of a system by its pieces
pub system_joined : (order : Order) (system : System) (name : List ℕ) → name ≡ system.name → (name ++ 0 ∷ []) ++ formats_text order system.formats ≡ system_text order system
system_joined order system name is =
    ap (λ (n : List ℕ). (n ++ 0 ∷ []) ++ formats_text order system.formats) is ∙ append_assoc system.name (0 ∷ []) (formats_text order system.formats)

pub texts_text : (header : Header)
    → event_word ++ (sized 8 header.order header.event_text ++ (formats_text header.order header.ftrace ++ (systems_text header.order header.systems
    ++ (sized 4 header.order header.kallsyms ++ (sized 4 header.order header.printk ++ sized 8 header.order header.cmdlines))))) ≡ text (take 7 (drop 7 (items header)))
unfolding items
texts_text header =
    ap (λ (t : List ℕ). event_word ++ (sized 8 header.order header.event_text ++ (formats_text header.order header.ftrace ++ (systems_text header.order header.systems ++ (sized 4 header.order header.kallsyms ++ (sized 4 header.order header.printk ++ t))))))
    (sym (append-nil (sized 8 header.order header.cmdlines)))

end_by : (order : Order) (cpus : ℕ) (options : Option (List Opt)) (parts : List Part)
    → bytes_of order 4 cpus ++ (options_section order options ++ (fly_word ++ table_text order parts)) ≡ bytes_of order 4 cpus ++ text (section_items order options (Fly parts))
end_by order cpus None parts = ap (λ (t : List ℕ). bytes_of order 4 cpus ++ (fly_word ++ t)) (sym (append-nil (table_text order parts)))
end_by order cpus (Some options) parts =
    ap (λ (t : List ℕ). bytes_of order 4 cpus ++ t) (append_assoc options_word (options_text order options) (fly_word ++ table_text order parts))
    ∙ ap (λ (t : List ℕ). bytes_of order 4 cpus ++ (options_word ++ (options_text order options ++ (fly_word ++ t)))) (sym (append-nil (table_text order parts)))

pub end_text : (header : Header) (parts : List Part)
    → bytes_of header.order 4 header.cpus ++ (options_section header.order header.options ++ (fly_word ++ table_text header.order parts)) ≡ text (drop 14 (items (with_parts header parts)))
unfolding items
end_text header parts = end_by header.order header.cpus header.options parts

-- the same without a table
pub sections_text : (header : Header)
    → bytes_of header.order 4 header.cpus ++ (options_section header.order header.options ++ fly_word) ≡ text (drop 14 (items (with_parts header [])))
sections_text header =
    ap (λ (t : List ℕ). bytes_of header.order 4 header.cpus ++ (options_section header.order header.options ++ t)) (sym (append-nil fly_word)) ∙ end_text header []

same_front : (header : Header) (parts : List Part) → take 7 (items header) ≡ take 7 (items (with_parts header parts))
unfolding items
same_front header parts = refl

same_texts : (header : Header) (parts : List Part) → take 7 (drop 7 (items header)) ≡ take 7 (drop 7 (items (with_parts header parts)))
unfolding items
same_texts header parts = refl

in_three : (xs : List Item) → text (take 7 xs) ++ (text (take 7 (drop 7 xs)) ++ text (drop 14 xs)) ≡ text xs
in_three xs =
    let bytes_in = λ (item : Item). item.bytes in
    ap (λ (ys : List Item). text (take 7 xs) ++ (text (take 7 (drop 7 xs)) ++ text ys)) (sym (drop-drop 7 7 xs))
    ∙ ap (λ (t : List ℕ). text (take 7 xs) ++ t) (sym (flat_map-append bytes_in (take 7 (drop 7 xs)) (drop 7 (drop 7 xs))) ∙ ap text (take-append-drop 7 (drop 7 xs)))
    ∙ sym (flat_map-append bytes_in (take 7 xs) (drop 7 xs)) ∙ ap text (take-append-drop 7 xs)

-- the three pieces are the whole
pub whole_text : (header : Header) (parts : List Part) → text (take 7 (items header)) ++ (text (take 7 (drop 7 (items header))) ++ text (drop 14 (items (with_parts header parts)))) ≡ header_text header parts
whole_text header parts =
    ap (λ (xs : List Item). text xs ++ (text (take 7 (drop 7 (items header))) ++ text (drop 14 (items (with_parts header parts))))) (same_front header parts)
    ∙ ap (λ (xs : List Item). text (take 7 (items (with_parts header parts))) ++ (text xs ++ text (drop 14 (items (with_parts header parts))))) (same_texts header parts)
    ∙ in_three (items (with_parts header parts))

five_joined : (a b c d e t : List ℕ) → (a ++ (b ++ (c ++ (d ++ e)))) ++ t ≡ a ++ (b ++ (c ++ (d ++ (e ++ t))))
five_joined a b c d e t =
    append_assoc a (b ++ (c ++ (d ++ e))) t
    ∙ ap (λ (s : List ℕ). a ++ s) (append_assoc b (c ++ (d ++ e)) t)
    ∙ ap (λ (s : List ℕ). a ++ (b ++ s)) (append_assoc c (d ++ e) t)
    ∙ ap (λ (s : List ℕ). a ++ (b ++ (c ++ s))) (append_assoc d e t)

-- the table stands after all else
pub table_behind : (header : Header) (parts : List Part) → text_before_table header ++ table_text header.order parts ≡ header_text header parts
table_behind header parts =
    let one = text (take 7 (items header)) in
    let two = text (take 7 (drop 7 (items header))) in
    let number = bytes_of header.order 4 header.cpus in
    let section = options_section header.order header.options in
    let table = table_text header.order parts in
    let front : text_before_table header ≡ one ++ (two ++ (number ++ (section ++ fly_word))) =
    sym (whole_text header []) ∙ ap (λ (t : List ℕ). one ++ (two ++ t)) (sym (sections_text header)) in
    ap (λ (t : List ℕ). t ++ table) front ∙ five_joined one two number section fly_word table
    ∙ ap (λ (t : List ℕ). one ++ (two ++ t)) (end_text header parts) ∙ whole_text header parts

-- the same of bytes that are the text in front of the table
pub held_text : (header : Header) (before bytes : List ℕ) (parts : List Part) → before ≡ text_before_table header → bytes ≡ before → bytes ++ table_text header.order parts ≡ header_text header parts
held_text header before bytes parts is same = ap (λ (t : List ℕ). t ++ table_text header.order parts) (same ∙ is) ∙ table_behind header parts

-- the text of a sink that was empty and gained this
pub text_gained : (before now result content : List ℕ) → Some before ≡ Some [] → Gained (Some before) (Some now) content → Some now ≡ Some result → result ≡ content
text_gained before now result content empty gained told =
    sym (some_is now result told) ∙ some_is now (before ++ content) gained ∙ ap (λ (t : List ℕ). t ++ content) (some_is before [] empty)

-- options of which some were taken away are allowed still
pub still_options : (told : Option (List Opt)) (options items kept result : List Opt) → Some options ≡ told → items ≡ options → kept ≡ filter (λ option. not (is_instance option)) items → result ≡ kept
    → IfSome told (All IsOption) → All IsOption result
still_options told options items kept result is same filtered last all =
    let own : All IsOption options = subst (λ (t : Option (List Opt)). IfSome t (All IsOption)) (sym is) all in
    subst (All IsOption) (sym (last ∙ filtered ∙ ap (filter (λ option. not (is_instance option))) same)) (All-filter (λ option. not (is_instance option)) IsOption options own)

-- what holds of each item so far
pub all_taken : {X : Type 0} (P : X → Type 0) (xs : List X) (i : ℕ) (d : X) → i < length xs → All P (take i xs) → P (get_or xs i d) → All P (take (i + 1) xs)
all_taken P xs i d inside all one = subst (All P) (sym (take_more xs i d inside)) (All-push P (take i xs) (get_or xs i d) all one)

pub all_of : {X : Type 0} (P : X → Type 0) (xs : List X) (i : ℕ) → length xs ≤ i → All P (take i xs) → All P xs
all_of P xs i whole all = subst (All P) (take_all i xs whole) all
