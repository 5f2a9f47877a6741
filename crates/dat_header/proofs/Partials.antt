-- What is computed of a partial file is its header, or its refusal.
use Rattle.std.proofs.Common.{◌≡◌, ℕ, ◌+◌, ◌<◌, ◌≤◌, List, [], ◌∷◌, ◌++◌, length, take, drop, Option, None, Some, Result, Ok, Err, refl, sym, ap, subst, ◌∙◌, inl, inr, append_assoc, arith}
use Rattle.std.proofs.lemmas.Bool.{cases_eq, cases_lt}
use Rattle.std.proofs.lemmas.List.{append-nil, length-append, length-drop, take-append-le}
use Rattle.std.proofs.lemmas.Option.{slice_get_within}
use Rattle.std.specs.List.{slice_get}
use Rattle.trace_base.specs.declared.order.Order.{Order}
use Rattle.dat_options.specs.declared.fault.OpenFault.{OpenFault}
use Rattle.dat_options.specs.declared.option.Opt.{Opt}
use Rattle.dat_options.specs.Place.{AreBytes}
use Rattle.dat_header.specs.declared.header.Header.{Header}
use Rattle.dat_header.specs.declared.header.Body.{Body}
use Rattle.dat_header.specs.declared.header.Body.TheVariants.{Fly}
use Rattle.dat_header.specs.declared.pieces.Opening.{Opening}
use Rattle.dat_header.specs.declared.pieces.Described.{Described}
use Rattle.dat_header.specs.declared.pieces.Carried.{Carried}
use Rattle.dat_header.specs.Allowed.{IsHeader}
use Rattle.dat_header.specs.Items.{Item, carried, sized, text, items}
use Rattle.dat_header.specs.Refusal.{fault_at, front, Refuses}
use Rattle.dat_header.specs.Spelling.{BeginsWith}
use Rattle.dat_header.specs.Found.{Found, ◌>>=◌}
use Rattle.dat_header.specs.ItemsAt.{text_at}
use Rattle.dat_header.specs.Opening.{described_at, opening_at}
use Rattle.dat_header.specs.Partial.{ComputesPartial, ComputesPartialRefusal, GoesOn, HasPartial, IsPartial, OnePartial, RefusesPartial, StopsBefore, WholeServes, cmdlines_at, partial_header, partial_of, without_tail}
use Rattle.dat_header.specs.Pieces.{IsDescribed, IsOpening}
use Rattle.dat_options.proofs.Numbers.{limit}
use Rattle.dat_header.proofs.Headers.{partial_allowed}
use Rattle.dat_header.proofs.Grammar.{err_or_ok, at_ok, at_err, behind, found_value, not_both, room, same_fault, same_value}
use Rattle.dat_header.proofs.Binds.{bind_more}
use Rattle.dat_header.proofs.Wrongs.{Right, Wrong, get_front, one_item, right_made, rights_as, rights_then, text_both}
use Rattle.dat_header.proofs.HeaderRight.{described_items, right_described, right_text}
use Rattle.dat_header.proofs.OpeningRight.{opening_items, right_opening}
use Rattle.dat_header.proofs.WholeRight.{carried_in, is_carried, is_opening, opening_in}
use Rattle.dat_header.proofs.HeaderLaws.{begins_fewer, begins_whole, ok_is}
use Rattle.dat_header.proofs.PartialSteps.{cmdlines_none, cmdlines_some}
use Rattle.dat_header.proofs.Wrapped.{length-sized}

-- ITEMS 1 TO 13, AND 14

-- what stands in front of the command lines
pub record Begun : Type 0 where
  pub opening : Opening
  pub described : Described

-- and the command lines
pub record Descriptions : Type 0 where
  pub begun : Begun
  pub cmdlines : List ℕ

abbrev begun_of : Opening → Described → Begun
begun_of opening described = record { opening = opening; described = described }

abbrev with_cmdlines : Begun → List ℕ → Descriptions
with_cmdlines begun cmdlines = record { begun = begun; cmdlines = cmdlines }

abbrev order_in : Begun → Order
order_in begun = begun.opening.machine.order

abbrev begun_items : Begun → List Item
begun_items begun = opening_items begun.opening ++ described_items (order_in begun) begun.described

abbrev IsBegun : Begun → Type 0
IsBegun begun = IsOpening begun.opening × IsDescribed begun.described

abbrev described_next : Opening → List ℕ → ℕ → Found Begun
described_next o file at = described_at o.machine.order file at >>= λ d. Ok (begun_of o d.0, d.1)

abbrev begun_at : List ℕ → ℕ → Found Begun
begun_at file at = opening_at file at >>= λ o. described_next o.0 file o.1

right_begun : Right begun_items IsBegun begun_at
right_begun = rights_as _ begun_items _ IsBegun _ begun_at (λ b all. (all.0, all.1.0)) (λ b is. (is.0, (is.1, refl))) (λ b is. refl) (λ file at. refl)
    (rights_then opening_items IsOpening opening_at _ _ described_next (λ (b : Begun). b.opening) 8 right_opening (λ o. refl)
    (λ o is. right_made (described_items o.machine.order) IsDescribed (described_at o.machine.order) (begun_of o) (λ (b : Begun). b.described) (λ d. refl) (right_described o.machine.order))
    (λ o b e. sym (ap (λ (x : Begun). x.opening) e.1)))

abbrev last_item : Order → List ℕ → List Item
last_item order cmdlines = one_item carried (sized 8 order) cmdlines

abbrev all_items : Descriptions → List Item
all_items all = begun_items all.begun ++ last_item (order_in all.begun) all.cmdlines

abbrev AreDescriptions : Descriptions → Type 0
AreDescriptions all = IsBegun all.begun × (length all.cmdlines < limit 8)

abbrev cmdlines_next : Begun → List ℕ → ℕ → Found Descriptions
cmdlines_next b file at = text_at 8 (order_in b) file at >>= λ c. Ok (with_cmdlines b c.0, c.1)

abbrev all_at : List ℕ → ℕ → Found Descriptions
all_at file at = begun_at file at >>= λ b. cmdlines_next b.0 file b.1

right_all : Right all_items AreDescriptions all_at
right_all = rights_as _ all_items _ AreDescriptions _ all_at (λ a all. (all.0, all.1.0)) (λ a is. (is.0, (is.1, refl))) (λ a is. refl) (λ file at. refl)
    (rights_then begun_items IsBegun begun_at _ _ cmdlines_next (λ (a : Descriptions). a.begun) 13 right_begun (λ b. refl)
    (λ b is. right_made (last_item (order_in b)) (λ (c : List ℕ). length c < limit 8) (text_at 8 (order_in b)) (with_cmdlines b) (λ (a : Descriptions). a.cmdlines) (λ c. refl) (right_text 8 (order_in b) (omega arith)))
    (λ b a e. sym (ap (λ (x : Descriptions). x.begun) e.1)))

-- HEADERS OF THESE

abbrev begun_in : Header → Begun
begun_in header = begun_of (opening_in header) (carried_in header).described

abbrev descriptions_in : Header → Descriptions
descriptions_in header = with_cmdlines (begun_in header) header.cmdlines

abbrev carried_of : Descriptions → Carried
carried_of all = record { described = all.begun.described; cmdlines = all.cmdlines }

abbrev header_with : Descriptions → ℕ → Header
header_with all end = partial_header all.begun.opening (carried_of all) end

are_in : (header : Header) → IsHeader header → AreDescriptions (descriptions_in header)
are_in header is = let texts = is_carried header is in ((is_opening header is, texts.described), texts.cmdlines)

partial_with : (all : Descriptions) (end : ℕ) → AreDescriptions all → IsPartial (header_with all end)
partial_with all end are = partial_allowed all.begun.opening (carried_of all) end are.0.0 (record { described = are.0.1; cmdlines = are.1 })

allowed_with : (all : Descriptions) (end : ℕ) → AreDescriptions all → IsHeader (header_with all end)
allowed_with all end are = (partial_with all end are).allowed

-- a header without processors is the one of its descriptions
is_with : (header : Header) (cmdlines : List ℕ) (end : ℕ) → IsPartial header → header.cmdlines ≡ cmdlines → header.end ≡ end → header_with (with_cmdlines (begun_in header) cmdlines) end ≡ header
is_with header cmdlines end is same ends =
    ap (λ (n : ℕ). record header { cpus = n; options = None; body = Fly []; cmdlines = cmdlines; end = end }) (sym is.cpus)
    ∙ ap (λ (o : Option (List Opt)). record header { options = o; body = Fly []; cmdlines = cmdlines; end = end }) (sym is.options)
    ∙ ap (λ (b : Body). record header { body = b; cmdlines = cmdlines; end = end }) (sym is.body)
    ∙ ap (λ (c : List ℕ). record header { cmdlines = c; end = end }) (sym same)
    ∙ ap (λ (n : ℕ). record header { end = n }) (sym ends)

-- a header's first fourteen items, and those that follow them
in_two : (header : Header) → (rest : List Item) × (items header ≡ all_items (descriptions_in header) ++ rest)
unfolding items
in_two header = (drop 14 (items header), refl)

few_items : (header : Header) (count : ℕ) → count ≤ 14 → take count (items header) ≡ take count (all_items (descriptions_in header))
few_items header count few =
    let parted = in_two header in
    ap (take count) parted.1 ∙ take-append-le count (all_items (descriptions_in header)) parted.0 few

get_item : (header : Header) (count : ℕ) → count < 14 → slice_get (items header) count ≡ slice_get (all_items (descriptions_in header)) count
get_item header count few =
    let parted = in_two header in
    ap (λ (xs : List Item). slice_get xs count) parted.1 ∙ get_front (all_items (descriptions_in header)) parted.0 count few

abbrev front_text : ℕ → Descriptions → List ℕ
front_text count all = text (take count (all_items all))

few_text : (header : Header) (count : ℕ) → count ≤ 14 → front count header ≡ front_text count (descriptions_in header)
few_text header count few = ap text (few_items header count few)

-- the first thirteen are those in front of the command lines
thirteen : (all : Descriptions) → front_text 13 all ≡ text (begun_items all.begun)
thirteen all = refl

fourteen : (all : Descriptions) → front_text 14 all ≡ text (all_items all)
fourteen all = refl

in_front : (header : Header) → front 13 header ≡ text (begun_items (begun_in header))
in_front header = few_text header 13 (omega arith)

in_all : (header : Header) → front 14 header ≡ text (all_items (descriptions_in header))
in_all header = few_text header 14 (omega arith)

-- WHAT IS COMPUTED

abbrev partial_next : List ℕ → Begun → ℕ → Result Header OpenFault
partial_next file b at = cmdlines_at (order_in b) file at >>= λ c. Ok (header_with (with_cmdlines b c.0) c.1)

partial_begun : (file : List ℕ) → (begun_at file 0 >>= λ b. partial_next file b.0 b.1) ≡ partial_of file
unfolding partial_of
partial_begun file =
    let last = λ (b : Begun × ℕ). partial_next file b.0 b.1 in
    bind_more (opening_at file 0) _ last _ (λ o. bind_more (described_at o.0.machine.order file o.1) _ last _ (λ d. refl))

behind_begun : (file : List ℕ) (b : Begun) (at : ℕ) → begun_at file 0 ≡ Ok (b, at) → partial_next file b at ≡ partial_of file
behind_begun file b at e = sym (ap (λ (f : Found Begun). f >>= λ x. partial_next file x.0 x.1) e) ∙ partial_begun file

wrong_begun : (file : List ℕ) (fault : OpenFault) → begun_at file 0 ≡ Err fault → partial_of file ≡ Err fault
wrong_begun file fault e = sym (partial_begun file) ∙ ap (λ (f : Found Begun). f >>= λ x. partial_next file x.0 x.1) e

stops : (file : List ℕ) (b : Begun) (at : ℕ) → begun_at file 0 ≡ Ok (b, at) → at ≡ length file → partial_of file ≡ Ok (header_with (with_cmdlines b []) at)
stops file b at e ends =
    sym (behind_begun file b at e) ∙ ap (λ (f : Found (List ℕ)). f >>= λ c. Ok (header_with (with_cmdlines b c.0) c.1)) (cmdlines_none (order_in b) file at ends)

abbrev with_text : Begun → List ℕ × ℕ → Result Header OpenFault
with_text b c = Ok (header_with (with_cmdlines b c.0) c.1)

goes_on : (file : List ℕ) (b : Begun) (at : ℕ) (found : Found (List ℕ)) → begun_at file 0 ≡ Ok (b, at) → (at ≡ length file → ⊥) → text_at 8 (order_in b) file at ≡ found
    → partial_of file ≡ (found >>= with_text b)
goes_on file b at found e more is =
    sym (behind_begun file b at e) ∙ ap (λ (f : Found (List ℕ)). f >>= with_text b) (cmdlines_some (order_in b) file at more ∙ is)

abbrev found_all : Begun → Found (List ℕ) → Found Descriptions
found_all b found = found >>= λ c. Ok (with_cmdlines b c.0, c.1)

all_begun : (file : List ℕ) (b : Begun) (at : ℕ) (found : Found (List ℕ)) → begun_at file 0 ≡ Ok (b, at) → text_at 8 (order_in b) file at ≡ found → all_at file 0 ≡ found_all b found
all_begun file b at found e is = at_ok (begun_at file 0) (λ x. cmdlines_next x.0 file x.1) b at e ∙ ap (found_all b) is

-- WHAT A FILE HAS IS COMPUTED

begun_again : (file : List ℕ) (header : Header) (rest : List ℕ) → IsHeader header → file ≡ front 13 header ++ rest → begun_at file 0 ≡ Ok (begun_in header, length (front 13 header))
begun_again file header rest is begins =
    let here : file ≡ text (begun_items (begun_in header)) ++ rest = begins ∙ ap (λ (t : List ℕ). t ++ rest) (in_front header) in
    let place : 0 + length (text (begun_items (begun_in header))) ≡ length (front 13 header) = omega (arith, ap length (in_front header)) in
    right_begun.reads.again file 0 (begun_in header) rest (omega arith) (are_in header is).0 here ∙ ap (λ (n : ℕ). found_value (begun_in header) n) place

stops_is : (file : List ℕ) (header : Header) → IsPartial header → StopsBefore header file → partial_of file ≡ Ok header
stops_is file header is ends =
    let begun = begun_again file header [] is.allowed (ends.whole ∙ sym (append-nil (front 13 header))) in
    let place : length (front 13 header) ≡ length file = sym (ap length ends.whole) in
    stops file (begun_in header) (length (front 13 header)) begun place
    ∙ ap (λ (h : Header). let r : Result Header OpenFault = Ok h in r) (is_with header [] (length (front 13 header)) is ends.none (ends.ends ∙ sym place))

goes_on_is : (file : List ℕ) (header : Header) → IsPartial header → GoesOn header file → partial_of file ≡ Ok header
goes_on_is file header is goes =
    let order = header.order in
    let head = text (begun_items (begun_in header)) in
    let last = text (last_item order header.cmdlines) in
    let rest = goes.begins.0 in
    let both : front 14 header ≡ head ++ last = in_all header ∙ text_both (begun_items (begun_in header)) (last_item order header.cmdlines) in
    let here : file ≡ head ++ (last ++ rest) = goes.begins.1 ∙ ap (λ (t : List ℕ). t ++ rest) both ∙ append_assoc head last rest in
    let front_is = in_front header in
    let at = length (front 13 header) in
    let place : at ≡ 0 + length head = omega (arith, ap length front_is) in
    let begun = begun_again file header (last ++ rest) is.allowed (here ∙ ap (λ (t : List ℕ). t ++ (last ++ rest)) (sym front_is)) in
    let after : drop at file ≡ last ++ rest = ap (λ (n : ℕ). drop n file) place ∙ behind file head (last ++ rest) 0 here in
    let inside : at ≤ length file = omega (arith, place, room file head (last ++ rest) 0 (omega arith) here) in
    let long : length last ≡ 8 + length header.cmdlines = omega (arith, ap length (append-nil (sized 8 order header.cmdlines)), length-sized 8 order header.cmdlines) in
    let more : at < length file = omega (arith, long, inside, ap length after, length-append last rest, length-drop at file) in
    let content = (right_text 8 order (omega arith)).reads.again file at header.cmdlines rest inside is.allowed.cmdlines after in
    let end : header.end ≡ at + length last = omega (arith, goes.ends, ap length both, length-append head last, place) in
    goes_on file (begun_in header) at (found_value header.cmdlines (at + length last)) begun (λ ends. absurd (omega (arith, ends, more))) content
    ∙ ap (λ (h : Header). let r : Result Header OpenFault = Ok h in r) (is_with header header.cmdlines (at + length last) is refl end)

has_is : (file : List ℕ) (header : Header) → HasPartial file header → partial_of file ≡ Ok header
has_is file header has = elim has.spelled [ inl ends ↦ stops_is file header has.is ends | inr goes ↦ goes_on_is file header has.is goes ]

pub one_partial : OnePartial
one_partial file header other one two = ok_is header other (sym (has_is file header one) ∙ has_is file other two)

-- a whole header without what follows its command lines
cut : (header : Header) → IsHeader header → IsPartial (without_tail header)
cut header is = partial_with (descriptions_in header) (length (front 14 header)) (are_in header is)

same_front : (header : Header) → front 14 (without_tail header) ≡ front 14 header
same_front header = in_all (without_tail header) ∙ sym (in_all header)

pub whole_serves : WholeServes
whole_serves file header has =
    let begins = begins_whole file header 14 has in
    let goes : GoesOn (without_tail header) file = record {
      begins = (begins.0, begins.1 ∙ ap (λ (t : List ℕ). t ++ begins.0) (sym (same_front header)));
      ends = ap length (sym (same_front header));
    } in
    record { is = cut header has.1.allowed; spelled = inr goes }

-- WHAT IS COMPUTED THE FILE HAS

stopped : (file : List ℕ) (b : Begun) (at : ℕ) → AreBytes file → begun_at file 0 ≡ Ok (b, at) → at ≡ length file → HasPartial file (header_with (with_cmdlines b []) at)
stopped file b at bytes e ends =
    let stands = right_begun.reads.sound file 0 b at bytes (omega arith) e in
    let all = with_cmdlines b [] in
    let header = header_with all at in
    let are : AreDescriptions all = (stands.is, omega arith) in
    let nothing : drop at file ≡ [] = none_left (drop at file) (omega (arith, length-drop at file, ends)) in
    let ended : StopsBefore header file = record {
      whole = stands.here ∙ ap (λ (t : List ℕ). text (begun_items b) ++ t) nothing ∙ append-nil (text (begun_items b)) ∙ sym (in_front header);
      none = refl;
      ends = ends;
    } in
    record { is = partial_with all at are; spelled = inl ended }
  where
    none_left : (xs : List ℕ) → length xs ≡ 0 → xs ≡ []
    none_left [] e = refl
    none_left (x ∷ xs) e = absurd (omega (arith, e))

gone_on : (file : List ℕ) (all : Descriptions) (end : ℕ) → AreBytes file → all_at file 0 ≡ Ok (all, end) → HasPartial file (header_with all end)
gone_on file all end bytes e =
    let stands = right_all.reads.sound file 0 all end bytes (omega arith) e in
    let header = header_with all end in
    let goes : GoesOn header file = record {
      begins = (drop end file, stands.here ∙ ap (λ (t : List ℕ). t ++ drop end file) (sym (in_all header)));
      ends = omega (arith, stands.place, ap length (in_all header));
    } in
    record { is = partial_with all end stands.is; spelled = inr goes }

ok_has : (file : List ℕ) (header other : Header) → partial_of file ≡ Ok other → HasPartial file other → partial_of file ≡ Ok header → HasPartial file header
ok_has file header other one has e = subst (HasPartial file) (ok_is other header (sym one ∙ e)) has

is_never : (file : List ℕ) (header : Header) (fault : OpenFault) → partial_of file ≡ Ok header → partial_of file ≡ Err fault → ⊥
is_never file header fault one two = let e = sym one ∙ two in cc

pub computes_partial : ComputesPartial
computes_partial file header bytes = (
  λ e. elim (err_or_ok (begun_at file 0)) [
    | inl wrong ↦ absurd (is_never file header wrong.0 e (wrong_begun file wrong.0 wrong.1))
    | inr begun ↦
        let b = begun.0 in
        let at = begun.1 in
        elim (cases_eq at (length file)) [
          | inl ends ↦ ok_has file header (header_with (with_cmdlines b []) at) (stops file b at begun.2 ends) (stopped file b at bytes begun.2 ends) e
          | inr more ↦ elim (err_or_ok (text_at 8 (order_in b) file at)) [
            | inl wrong ↦ absurd (is_never file header wrong.0 e (goes_on file b at (Err wrong.0) begun.2 more wrong.1))
            | inr found ↦
                let all = with_cmdlines b found.0 in
                ok_has file header (header_with all found.1) (goes_on file b at (found_value found.0 found.1) begun.2 more found.2) (gone_on file all found.1 bytes (all_begun file b at (found_value found.0 found.1) begun.2 found.2)) e
          ]
        ]
  ],
  has_is file header,
)

-- REFUSALS

-- a fault of the fourteen items is a refusal of the whole header
all_wrong : (file : List ℕ) (fault : OpenFault) → Wrong all_items AreDescriptions file 0 fault → (refuses : Refuses file fault) × (refuses.count ≤ 13)
all_wrong file fault wrong =
    let header = header_with wrong.value 0 in
    let inside : wrong.count < 14 = slice_get_within (all_items wrong.value) wrong.count wrong.item wrong.next in
    let same = few_text header wrong.count (omega (arith, inside)) in
    let refuses : Refuses file fault = record {
      count = wrong.count;
      header = header;
      allowed = allowed_with wrong.value 0 wrong.is;
      begins = (wrong.rest, wrong.begins ∙ ap (λ (t : List ℕ). t ++ wrong.rest) (sym same));
      no_more = λ other is begins. wrong.no_more (descriptions_in other) begins.0 (are_in other is) (begins.1 ∙ ap (λ (t : List ℕ). t ++ begins.0) (few_text other (wrong.count + 1) (omega (arith, inside))));
      item = wrong.item;
      next = get_item header wrong.count inside ∙ wrong.next;
      is = wrong.fault_is ∙ ap (λ (n : ℕ). fault_at wrong.item.kind file n) (let p : 0 + length (front_text wrong.count wrong.value) ≡ length (front wrong.count header) = omega (arith, ap length same) in p);
    } in
    (refuses, omega (arith, inside))

-- and no other fault is
all_only : (file : List ℕ) (fault other : OpenFault) → Wrong all_items AreDescriptions file 0 fault → (refuses : Refuses file other) → refuses.count ≤ 13 → fault ≡ other
all_only file fault other wrong refuses early =
    let header = refuses.header in
    let mine = header_with wrong.value 0 in
    let inside : wrong.count < 14 = slice_get_within (all_items wrong.value) wrong.count wrong.item wrong.next in
    elim (cases_lt wrong.count refuses.count) [
      | inl before ↦
          let begins = begins_fewer file header (wrong.count + 1) refuses.count (omega (arith, before)) refuses.begins in
          absurd (wrong.no_more (descriptions_in header) begins.0 (are_in header refuses.allowed) (begins.1 ∙ ap (λ (t : List ℕ). t ++ begins.0) (few_text header (wrong.count + 1) (omega (arith, inside)))))
      | inr behind_it ↦ elim (cases_lt refuses.count wrong.count) [
        | inl before ↦
            let begun = begins_fewer file mine (refuses.count + 1) wrong.count (omega (arith, before)) (wrong.rest, wrong.begins ∙ ap (λ (t : List ℕ). t ++ wrong.rest) (sym (few_text mine wrong.count (omega (arith, inside))))) in
            absurd (refuses.no_more mine (allowed_with wrong.value 0 wrong.is) begun)
        | inr same ↦
            let one : wrong.count ≡ refuses.count = omega (arith, behind_it, same) in
            let spelled = few_text header wrong.count (omega (arith, inside)) in
            let here : file ≡ front_text wrong.count (descriptions_in header) ++ refuses.begins.0 =
            refuses.begins.1 ∙ ap (λ (n : ℕ). front n header ++ refuses.begins.0) (sym one) ∙ ap (λ (t : List ℕ). t ++ refuses.begins.0) spelled in
            let get : slice_get (all_items (descriptions_in header)) wrong.count ≡ Some refuses.item = sym (get_item header wrong.count inside) ∙ ap (slice_get (items header)) one ∙ refuses.next in
            wrong.only (descriptions_in header) refuses.begins.0 refuses.item (are_in header refuses.allowed) here get
            ∙ ap (λ (n : ℕ). fault_at refuses.item.kind file n)
            (let p : 0 + length (front_text wrong.count (descriptions_in header)) ≡ length (front refuses.count header) = omega (arith, ap length spelled, ap (λ (n : ℕ). length (front n header)) one) in p)
            ∙ sym refuses.is
      ]
    ]

err_is : (one two : OpenFault) → (let a : Result Header OpenFault = Err one in let b : Result Header OpenFault = Err two in a ≡ b) → one ≡ two
err_is one two e = cc

-- where a file has the thirteen, it is refused only where it goes on
goes_on_behind : (file : List ℕ) (header : Header) (rest : List ℕ) (fault : OpenFault) → IsHeader header → file ≡ front 13 header ++ rest → partial_of file ≡ Err fault → length (front 13 header) < length file
goes_on_behind file header rest fault is begins e =
    let at = length (front 13 header) in
    let begun = begun_again file header rest is begins in
    let inside : at ≤ length file = omega (arith, ap length begins, length-append (front 13 header) rest) in
    elim (cases_eq at (length file)) [
      | inl ends ↦ absurd (is_never file _ fault (stops file (begun_in header) at begun ends) e)
      | inr more ↦ omega (arith, inside, more)
    ]

-- the fault of a file is that of its fourteen items
wrong_of_all : (file : List ℕ) (fault : OpenFault) → partial_of file ≡ Err fault → all_at file 0 ≡ Err fault
wrong_of_all file fault e = elim (err_or_ok (begun_at file 0)) [
  | inl wrong ↦
      let same : wrong.0 ≡ fault = err_is _ _ (sym (wrong_begun file wrong.0 wrong.1) ∙ e) in
      at_err (begun_at file 0) (λ x. cmdlines_next x.0 file x.1) wrong.0 wrong.1 ∙ ap (λ (f : OpenFault). let r : Found Descriptions = Err f in r) same
  | inr begun ↦
      let b = begun.0 in
      let at = begun.1 in
      elim (cases_eq at (length file)) [
        | inl ends ↦ absurd (is_never file _ fault (stops file b at begun.2 ends) e)
        | inr more ↦ elim (err_or_ok (text_at 8 (order_in b) file at)) [
          | inr found ↦ absurd (is_never file _ fault (goes_on file b at (found_value found.0 found.1) begun.2 more found.2) e)
          | inl wrong ↦
              let same : wrong.0 ≡ fault = err_is _ _ (sym (goes_on file b at (Err wrong.0) begun.2 more wrong.1) ∙ e) in
              all_begun file b at (Err wrong.0) begun.2 wrong.1 ∙ ap (λ (f : OpenFault). let r : Found Descriptions = Err f in r) same
        ]
      ]
]

-- a fault of the fourteen is one of the file, unless it stops after the thirteen
wrong_of_file : (file : List ℕ) (fault : OpenFault) → all_at file 0 ≡ Err fault → ((b : Begun) → begun_at file 0 ≡ Ok (b, length file) → ⊥) → partial_of file ≡ Err fault
wrong_of_file file fault e goes = elim (err_or_ok (begun_at file 0)) [
  | inl wrong ↦
      let same : wrong.0 ≡ fault = same_fault (all_at file 0) wrong.0 fault (at_err (begun_at file 0) (λ x. cmdlines_next x.0 file x.1) wrong.0 wrong.1) e in
      wrong_begun file wrong.0 wrong.1 ∙ ap (λ (f : OpenFault). let r : Result Header OpenFault = Err f in r) same
  | inr begun ↦
      let b = begun.0 in
      let at = begun.1 in
      elim (cases_eq at (length file)) [
        | inl ends ↦ absurd (goes b (begun.2 ∙ ap (λ (n : ℕ). found_value b n) ends))
        | inr more ↦ elim (err_or_ok (text_at 8 (order_in b) file at)) [
          | inr found ↦ absurd (not_both (all_at file 0) (with_cmdlines b found.0, found.1) fault (all_begun file b at (found_value found.0 found.1) begun.2 found.2) e)
          | inl wrong ↦
              let same : wrong.0 ≡ fault = same_fault (all_at file 0) wrong.0 fault (all_begun file b at (Err wrong.0) begun.2 wrong.1) e in
              goes_on file b at (Err wrong.0) begun.2 more wrong.1 ∙ ap (λ (f : OpenFault). let r : Result Header OpenFault = Err f in r) same
        ]
      ]
]

-- a file that is refused does not stop after the thirteen
never_stops : (file : List ℕ) (fault : OpenFault) → AreBytes file → RefusesPartial file fault → (b : Begun) → begun_at file 0 ≡ Ok (b, length file) → ⊥
never_stops file fault bytes refusal b e =
    let refuses = refusal.refuses in
    let stands = right_begun.reads.sound file 0 b (length file) bytes (omega arith) e in
    let header = header_with (with_cmdlines b []) 0 in
    let is : IsHeader header = allowed_with (with_cmdlines b []) 0 (stands.is, omega arith) in
    let begins : BeginsWith file (front 13 header) = (drop (length file) file, stands.here ∙ ap (λ (t : List ℕ). t ++ drop (length file) file) (sym (in_front header))) in
    elim (cases_lt refuses.count 13) [
      | inl early ↦ refuses.no_more header is (begins_fewer file header (refuses.count + 1) 13 (omega (arith, early)) begins)
      | inr late ↦
          let last : refuses.count ≡ 13 = omega (arith, late, refusal.early) in
          let here : file ≡ front 13 refuses.header ++ refuses.begins.0 = refuses.begins.1 ∙ ap (λ (n : ℕ). front n refuses.header ++ refuses.begins.0) last in
          let again = begun_again file refuses.header refuses.begins.0 refuses.allowed here in
          let place : length file ≡ length (front 13 refuses.header) = (same_value (begun_at file 0) b (begun_in refuses.header) (length file) (length (front 13 refuses.header)) e again).1 in
          absurd (omega (arith, place, refusal.goes_on last))
    ]

pub computes_partial_refusal : ComputesPartialRefusal
computes_partial_refusal file fault bytes = (
  λ e.
      let found = all_wrong file fault (right_all.fails file 0 fault bytes (omega arith) (wrong_of_all file fault e)) in
      let refuses = found.0 in
      let refusal : RefusesPartial file fault = record {
        refuses = refuses;
        early = found.1;
        goes_on = λ last. goes_on_behind file refuses.header refuses.begins.0 fault refuses.allowed (refuses.begins.1 ∙ ap (λ (n : ℕ). front n refuses.header ++ refuses.begins.0) last) e;
      } in
      refusal,
  λ refusal. elim (err_or_ok (all_at file 0)) [
    | inr found ↦
        let has = gone_on file found.0 found.1 bytes found.2 in
        let header = header_with found.0 found.1 in
        let stands = right_all.reads.sound file 0 found.0 found.1 bytes (omega arith) found.2 in
        let begins : BeginsWith file (front 14 header) = (drop found.1 file, stands.here ∙ ap (λ (t : List ℕ). t ++ drop found.1 file) (sym (in_all header))) in
        absurd (refusal.refuses.no_more header has.is.allowed (begins_fewer file header (refusal.refuses.count + 1) 14 (omega (arith, refusal.early)) begins))
    | inl wrong ↦
        let same = all_only file wrong.0 fault (right_all.fails file 0 wrong.0 bytes (omega arith) wrong.1) refusal.refuses refusal.early in
        wrong_of_file file wrong.0 wrong.1 (never_stops file fault bytes refusal) ∙ ap (λ (f : OpenFault). let r : Result Header OpenFault = Err f in r) same
  ],
)
