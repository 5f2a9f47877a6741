-- What is computed of a file is its header, or its refusal.
use Rattle.std.proofs.Common.{◌≡◌, ℕ, zero, suc, ◌+◌, ◌-◌, ◌≤◌, Bool, true, false, cond, ltb, List, [], ◌∷◌, ◌++◌, length, take, drop, Option, None, Some, Result, Ok, Err, refl, sym, ap, subst, ◌∙◌, inl, inr, append_assoc, arith}
use Rattle.std.proofs.lemmas.Bool.{cases_lt}
use Rattle.std.proofs.lemmas.List.{append-nil, take-append-drop}
use Rattle.std.proofs.lemmas.Grind.{flat_map-append}
use Rattle.std.proofs.Math.Seq.{take-add}
use Rattle.std.specs.List.{slice_get, list_any}
use Rattle.trace_base.specs.Number.{num}
use Rattle.trace_base.specs.declared.order.Order.{Order}
use Rattle.trace_base.specs.declared.part.Part.{Part}
use Rattle.dat_header.specs.Written.{written, header_text, with_parts}
use Rattle.dat_options.specs.declared.option.Opt.{Opt}
use Rattle.dat_options.specs.declared.fault.OpenFault.{OpenFault}
use Rattle.dat_options.specs.declared.fault.OpenFault.TheVariants.{NotTrace, Compressed, OtherVersion, BadEndian, BadLong, BadPageSize, BadHeaderPage, BadSection, Truncated, TooManyCpus}
use Rattle.dat_header.specs.declared.header.Header.{Header}
use Rattle.dat_header.specs.declared.header.Body.{Body}
use Rattle.dat_header.specs.declared.header.Body.TheVariants.{Latency, Fly}
use Rattle.dat_header.specs.Allowed.{IsHeader}
use Rattle.dat_header.specs.Items.{Item, Kind, word, version, value, page_text, carried, text, magic_word, version_word, page_word, event_word, section_words, body_words, section_items, items}
use Rattle.dat_header.specs.Refusal.{begins_with, version_fault, seventh, fault_at, front, Refuses}
use Rattle.dat_header.specs.Spelling.{SpellsHeader, HasHeader, BeginsWith}
use Rattle.dat_header.specs.ItemsAt.{value_at, cpus_of}
use Rattle.dat_header.specs.Header.{carried_at, sections_at, header_of, IsRefusal}
use Rattle.dat_header.specs.Opening.{opening_at}
use Rattle.dat_header.specs.Found.{Found, ◌>>=◌}
use Rattle.dat_options.specs.Place.{AreBytes}
use Rattle.dat_header.specs.Laws.{SpellingsDiffer, OneHeader, ReadsBack, ComputesHeader, ComputesRefusal, RefusesByBytes}
use Rattle.dat_options.proofs.Steps.{some_is}
use Rattle.dat_header.proofs.Binds.{bind_more}
use Rattle.dat_header.proofs.Grammar.{err_or_ok}
use Rattle.dat_header.proofs.Wrongs.{Wrong}
use Rattle.dat_header.proofs.WholeRight.{whole_at, IsOpen, right_whole}

-- the header with its end
abbrev closed : Header × ℕ → Result Header OpenFault
closed found = Ok (record found.0 { end = found.1 })

pub header_is : (file : List ℕ) → (whole_at file 0 >>= closed) ≡ header_of file
unfolding header_of
header_is file =
    bind_more (opening_at file 0) _ closed _
    (λ o. bind_more (carried_at o.0.machine.order file o.1) _ closed _
    (λ t. bind_more (value_at 4 o.0.machine.order cpus_of (TooManyCpus t.1) file t.1) _ closed _
    (λ n. bind_more (sections_at o.0.machine.order n.0 file n.1) _ closed _ (λ s. refl))))

open_items : (header : Header) (end : ℕ) → items (record header { end = end }) ≡ items header
unfolding items
open_items header end = refl

pub any_end : (header : Header) (end : ℕ) → IsHeader header → IsHeader (record header { end = end })
any_end header end h = record {
  long = h.long;
  page = h.page;
  page_text = h.page_text;
  layout = h.layout;
  event_text = h.event_text;
  ftrace = h.ftrace;
  systems = h.systems;
  kallsyms = h.kallsyms;
  printk = h.printk;
  cmdlines = h.cmdlines;
  cpus = h.cpus;
  options = h.options;
  body = h.body;
}

abbrev opened : Header → Header
opened header = record header { end = 0 }

is_open : (header : Header) → IsHeader header → IsOpen (opened header)
is_open header is = record { is = any_end header 0 is; open_end = refl }

pub reads_back : ReadsBack
reads_back header bytes rest spells =
    let file = bytes ++ rest in
    let here : file ≡ text (items (opened header)) ++ rest = ap (λ (t : List ℕ). t ++ rest) (spells.joined ∙ ap text (sym (open_items header 0))) in
    let again = right_whole.reads.again file 0 (opened header) rest (omega arith) (is_open header spells.allowed) here in
    let long : 0 + length (text (items (opened header))) ≡ header.end = omega (arith, ap length spells.joined, spells.ends, ap (λ (xs : List Item). length (text xs)) (open_items header 0)) in
    sym (header_is file) ∙ ap (λ (f : Found Header). f >>= closed) again ∙ ap (λ (n : ℕ). let r : Result Header OpenFault = Ok (record header { end = n }) in r) long

pub ok_is : (header other : Header) → (let one : Result Header OpenFault = Ok header in let two : Result Header OpenFault = Ok other in one ≡ two) → header ≡ other
ok_is header other e = cc

has_is : (file : List ℕ) (header : Header) → HasHeader file header → header_of file ≡ Ok header
has_is file header has = ap header_of has.2.1 ∙ reads_back header has.0 has.2.0 has.1

pub one_header : OneHeader
one_header file header other one two = ok_is header other (sym (has_is file header one) ∙ has_is file other two)

pub spellings_differ : SpellingsDiffer
spellings_differ header other bytes more one two begins =
    one_header more header other (bytes, one, begins) (more, two, ([], sym (append-nil more)))

-- what was read of a file
found_is : (file : List ℕ) (header : Header) (end : ℕ) → AreBytes file → whole_at file 0 ≡ Ok (header, end) → HasHeader file (record header { end = end })
found_is file header end bytes e =
    let stands = right_whole.reads.sound file 0 header end bytes (omega arith) e in (
      text (items header),
      record {
        allowed = any_end header end stands.is.is;
        joined = ap text (sym (open_items header end));
        ends = omega (arith, stands.place);
      },
      (drop end file, stands.here),
    )

pub computes_header : ComputesHeader
computes_header file header bytes = (
  λ e. elim (err_or_ok (whole_at file 0)) [
    | inl wrong ↦ let never : Err wrong.0 ≡ Ok header = sym (ap (λ (f : Found Header). f >>= closed) wrong.1) ∙ header_is file ∙ e in absurd (cc)
    | inr found ↦
        let same : record found.0 { end = found.1 } ≡ header = ok_is _ header (sym (ap (λ (f : Found Header). f >>= closed) found.2) ∙ header_is file ∙ e) in
        subst (HasHeader file) same (found_is file found.0 found.1 bytes found.2)
  ],
  has_is file header,
)

-- the first few items of a header are at the front where more of them are
fewer : (xs : List Item) (few more : ℕ) → few ≤ more → text (take more xs) ≡ text (take few xs) ++ text (take (more - few) (drop few xs))
fewer xs few more le =
    ap (λ (n : ℕ). text (take n xs)) (let e : more ≡ few + (more - few) = omega arith in e) ∙ ap text (take-add few (more - few) xs) ∙ flat_map-append (λ item. item.bytes) (take few xs) (take (more - few) (drop few xs))

pub begins_fewer : (file : List ℕ) (header : Header) (few more : ℕ) → few ≤ more → BeginsWith file (front more header) → BeginsWith file (front few header)
begins_fewer file header few more le begins = (
  text (take (more - few) (drop few (items header))) ++ begins.0,
  begins.1 ∙ ap (λ (t : List ℕ). t ++ begins.0) (fewer (items header) few more le) ∙ append_assoc (text (take few (items header))) (text (take (more - few) (drop few (items header)))) begins.0,
)

-- all items of a header are at the front where it is spelled
pub begins_whole : (file : List ℕ) (header : Header) (count : ℕ) → HasHeader file header → BeginsWith file (front count header)
begins_whole file header count has =
    let whole : text (items header) ≡ text (take count (items header)) ++ text (drop count (items header)) = ap text (sym (take-append-drop count (items header))) ∙ flat_map-append (λ item. item.bytes) (take count (items header)) (drop count (items header)) in (
      text (drop count (items header)) ++ has.2.0,
      has.2.1 ∙ ap (λ (t : List ℕ). t ++ has.2.0) (has.1.joined ∙ whole) ∙ append_assoc (text (take count (items header))) (text (drop count (items header))) has.2.0,
    )

opened_front : (header : Header) (count : ℕ) → front count (opened header) ≡ front count header
opened_front header count = ap (λ (xs : List Item). text (take count xs)) (open_items header 0)

-- what was found wrong is the refusal
wrong_is : (file : List ℕ) (fault : OpenFault) → Wrong items IsOpen file 0 fault → Refuses file fault
wrong_is file fault wrong = record {
  count = wrong.count;
  header = wrong.value;
  allowed = wrong.is.is;
  begins = (wrong.rest, wrong.begins);
  no_more = λ other is begins. wrong.no_more (opened other) begins.0 (is_open other is) (begins.1 ∙ ap (λ (t : List ℕ). t ++ begins.0) (sym (opened_front other (wrong.count + 1))));
  item = wrong.item;
  next = wrong.next;
  is = wrong.fault_is ∙ ap (λ (n : ℕ). fault_at wrong.item.kind file n) (let p : 0 + length (front wrong.count wrong.value) ≡ length (front wrong.count wrong.value) = omega arith in p);
}

-- and no other fault is
wrong_only : (file : List ℕ) (fault other : OpenFault) → Wrong items IsOpen file 0 fault → Refuses file other → fault ≡ other
wrong_only file fault other wrong refuses = elim (cases_lt wrong.count refuses.count) [
  | inl before ↦
      let begins = begins_fewer file refuses.header (wrong.count + 1) refuses.count (omega arith) refuses.begins in
      absurd (wrong.no_more (opened refuses.header) begins.0 (is_open refuses.header refuses.allowed) (begins.1 ∙ ap (λ (t : List ℕ). t ++ begins.0) (sym (opened_front refuses.header (wrong.count + 1)))))
  | inr behind ↦ elim (cases_lt refuses.count wrong.count) [
    | inl before ↦ absurd (refuses.no_more wrong.value wrong.is.is (begins_fewer file wrong.value (refuses.count + 1) wrong.count (omega arith) (wrong.rest, wrong.begins)))
    | inr same ↦
        let one : wrong.count ≡ refuses.count = omega (arith, behind, same) in
        let header = refuses.header in
        let here : file ≡ front wrong.count (opened header) ++ refuses.begins.0 =
        refuses.begins.1 ∙ ap (λ (n : ℕ). front n header ++ refuses.begins.0) (sym one) ∙ ap (λ (t : List ℕ). t ++ refuses.begins.0) (sym (opened_front header wrong.count)) in
        let get : slice_get (items (opened header)) wrong.count ≡ Some refuses.item = ap (λ (xs : List Item). slice_get xs wrong.count) (open_items header 0) ∙ ap (slice_get (items header)) one ∙ refuses.next in
        wrong.only (opened header) refuses.begins.0 refuses.item (is_open header refuses.allowed) here get
        ∙ ap (λ (t : List ℕ). fault_at refuses.item.kind file (0 + length t)) (opened_front header wrong.count)
        ∙ ap (λ (n : ℕ). fault_at refuses.item.kind file n) (let p : 0 + length (front wrong.count header) ≡ length (front refuses.count header) = omega (arith, ap (λ (n : ℕ). length (front n header)) one) in p)
        ∙ sym refuses.is
  ]
]

pub computes_refusal : ComputesRefusal
computes_refusal file fault bytes = (
  λ e. elim (err_or_ok (whole_at file 0)) [
    | inr found ↦ let never : Ok (record found.0 { end = found.1 }) ≡ Err fault = sym (ap (λ (f : Found Header). f >>= closed) found.2) ∙ header_is file ∙ e in absurd (cc)
    | inl wrong ↦
        let same : wrong.0 ≡ fault = err_is _ _ (sym (ap (λ (f : Found Header). f >>= closed) wrong.1) ∙ header_is file ∙ e) in
        wrong_is file fault (right_whole.fails file 0 fault bytes (omega arith) (wrong.1 ∙ ap (λ (f : OpenFault). let r : Found Header = Err f in r) same))
  ],
  λ refuses. elim (err_or_ok (whole_at file 0)) [
    | inr found ↦
        let has = found_is file found.0 found.1 bytes found.2 in
        absurd (refuses.no_more (record found.0 { end = found.1 }) has.1.allowed (begins_whole file _ (refuses.count + 1) has))
    | inl wrong ↦
        let same = wrong_only file wrong.0 fault (right_whole.fails file 0 wrong.0 bytes (omega arith) wrong.1) refuses in
        sym (header_is file) ∙ ap (λ (f : Found Header). f >>= closed) wrong.1 ∙ ap (λ (f : OpenFault). let r : Result Header OpenFault = Err f in r) same
  ],
)
  where
    err_is : (one two : OpenFault) → (let a : Result Header OpenFault = Err one in let b : Result Header OpenFault = Err two in a ≡ b) → one ≡ two
    err_is one two e = cc

-- each kind's fault is a refusal
abbrev Refusing : Kind → Type 0
Refusing kind = (file : List ℕ) (at : ℕ) → IsRefusal (fault_at kind file at)

cut_refuses : (cut : Bool) (size : ℕ) (wrong : OpenFault) → IsRefusal wrong → IsRefusal (cond cut (Truncated size) wrong)
cut_refuses true size wrong refusal = tt
cut_refuses false size wrong refusal = refusal

word_refuses : (words : List (List ℕ)) (wrong : ℕ → OpenFault) → ((at : ℕ) → IsRefusal (wrong at)) → Refusing (word words wrong)
word_refuses words wrong refusal file at = cut_refuses (list_any (λ w. begins_with w (drop at file)) words) (length file) (wrong at) (refusal at)

version_refuses : Refusing version
version_refuses file at = cut_refuses (list_any (λ w. begins_with w (drop at file)) (version_word ∷ [])) (length file) (version_fault at (drop at file)) (seventh_refuses (begins_with (drop at file) seventh))
  where
    seventh_refuses : (seven : Bool) → IsRefusal (cond seven (Compressed at) (OtherVersion at))
    seventh_refuses true = tt
    seventh_refuses false = tt

value_refuses : (size : ℕ) (wrong : ℕ → OpenFault) → ((at : ℕ) → IsRefusal (wrong at)) → Refusing (value size wrong)
value_refuses size wrong refusal file at = cut_refuses (ltb (length (drop at file)) size) (length file) (wrong at) (refusal at)

page_refuses : (order : Order) → Refusing (page_text order)
page_refuses order file at =
    cut_refuses (ltb (length (drop at file)) 8) (length file) _ (cut_refuses (ltb (length (drop (at + 8) file)) (num order (take 8 (drop at file)))) (length file) (BadHeaderPage (at + 8)) tt)

abbrev AllRefuse : List Item → Type 0
AllRefuse [] = Unit {0}
AllRefuse (item ∷ items) = Refusing item.kind × AllRefuse items

one_refuses : (xs : List Item) (count : ℕ) (item : Item) → AllRefuse xs → slice_get xs count ≡ Some item → Refusing item.kind
one_refuses [] count item all e = cc
one_refuses (x ∷ xs) zero item all e = let same : x ≡ item = some_is x item e in subst (λ (i : Item). Refusing i.kind) same all.0
one_refuses (x ∷ xs) (suc count) item all e = one_refuses xs count item all.1 e

section_refuses : (order : Order) (options : Option (List Opt)) (body : Body) → AllRefuse (section_items order options body)
section_refuses order None Latency = (word_refuses section_words BadSection (λ at. tt), tt)
section_refuses order None (Fly parts) = (word_refuses section_words BadSection (λ at. tt), ((λ file at. tt), tt))
section_refuses order (Some options) Latency = (word_refuses section_words BadSection (λ at. tt), ((λ file at. tt), (word_refuses body_words BadSection (λ at. tt), tt)))
section_refuses order (Some options) (Fly parts) = (word_refuses section_words BadSection (λ at. tt), ((λ file at. tt), (word_refuses body_words BadSection (λ at. tt), ((λ file at. tt), tt))))

all_refuse : (header : Header) → AllRefuse (items header)
unfolding items
all_refuse header =
    let texts : (Refusing carried) = λ file at. tt in (
      word_refuses (magic_word ∷ []) NotTrace (λ at. tt),
      (
        version_refuses,
        (
          value_refuses 1 BadEndian (λ at. tt),
          (
            value_refuses 1 BadLong (λ at. tt),
            (
              value_refuses 4 BadPageSize (λ at. tt),
              (
                word_refuses (page_word ∷ []) BadSection (λ at. tt),
                (
                  page_refuses header.order,
                  (word_refuses (event_word ∷ []) BadSection (λ at. tt), (texts, (texts, (texts, (texts, (texts, (texts, (value_refuses 4 TooManyCpus (λ at. tt), section_refuses header.order header.options header.body)))))))),
                ),
              ),
            ),
          ),
        ),
      ),
    )

pub refuses_by_bytes : RefusesByBytes
refuses_by_bytes file fault refuses = subst IsRefusal (sym refuses.is) (one_refuses (items refuses.header) refuses.count refuses.item (all_refuse refuses.header) refuses.next file (length (front refuses.count refuses.header)))

-- what is written is spelled by the header with these parts
pub written_spelled : (header : Header) (parts : List Part) → IsHeader header → length parts ≡ header.cpus → SpellsHeader (written header parts) (header_text header parts)
written_spelled header parts h each = record {
  allowed = record {
    long = h.long;
    page = h.page;
    page_text = h.page_text;
    layout = h.layout;
    event_text = h.event_text;
    ftrace = h.ftrace;
    systems = h.systems;
    kallsyms = h.kallsyms;
    printk = h.printk;
    cmdlines = h.cmdlines;
    cpus = h.cpus;
    options = h.options;
    body = each;
  };
  joined = ap text (sym (open_items (with_parts header parts) (length (header_text header parts))));
  ends = refl;
}
