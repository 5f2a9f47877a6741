-- The whole header is read as it is spelled, or its first wrong item is found.
use Rattle.std.proofs.Common.{◌≡◌, ℕ, ◌+◌, ◌<◌, ◌≤◌, Bool, true, false, cond, ltb, List, [], ◌∷◌, ◌++◌, length, take, drop, Ok, Err, refl, sym, ap, subst, ◌∙◌, inl, inr, append_assoc, arith}
use Rattle.std.proofs.lemmas.Bool.{cases_lt, le-ltb, lt-ltb}
use Rattle.std.proofs.lemmas.List.{length-append, length-drop}
use Rattle.trace_base.specs.Number.{num, bytes_of}
use Rattle.trace_base.specs.declared.order.Order.{Order}
use Rattle.trace_base.specs.declared.order.Order.TheVariants.{Little}
use Rattle.trace_base.specs.declared.layout.Layout.{Layout}
use Rattle.trace_base.specs.Allowed.{IsAllowed}
use Rattle.trace_base.specs.Layout.{plain_layout}
use Rattle.trace_base.proofs.Layouts.{layout_is, test_is}
use Rattle.dat_options.specs.declared.fault.OpenFault.{OpenFault}
use Rattle.dat_options.specs.declared.fault.OpenFault.TheVariants.{Truncated, BadEndian, BadLong, BadPageSize, BadHeaderPage}
use Rattle.dat_options.proofs.Numbers.{limit}
use Rattle.dat_header.specs.declared.header.System.{System}
use Rattle.dat_header.specs.declared.pieces.Machine.{Machine}
use Rattle.dat_header.specs.declared.pieces.PageText.{PageText}
use Rattle.dat_header.specs.declared.pieces.Carried.{Carried}
use Rattle.dat_header.specs.declared.pieces.Described.{Described}
use Rattle.dat_header.specs.Allowed.{AreFormats, AreSystems}
use Rattle.dat_header.specs.Pieces.{IsMachine, IsPageText, IsCarried, IsDescribed}
use Rattle.dat_header.specs.PageText.{layout_of}
use Rattle.dat_header.specs.Items.{Item, value, page_text, carried, order_byte, sized, formats_text, systems_text}
use Rattle.dat_header.specs.Refusal.{fault_at}
use Rattle.dat_header.specs.ItemsAt.{bytes_at, number_at, value_at, text_at, formats_at, systems_at, order_of, long_of, page_of}
use Rattle.dat_header.specs.Header.{carried_at}
use Rattle.dat_header.specs.Opening.{described_at, machine_at, page_text_at}
use Rattle.dat_header.specs.Found.{Found, ◌>>=◌, or_wrong}
use Rattle.dat_options.specs.Place.{AreBytes}
use Rattle.dat_header.proofs.Values.{checked_is, checked_not}
use Rattle.dat_header.proofs.Grammar.{Stands, found_value, err_or_ok, at_ok, at_err, not_both, same_value, same_fault, behind, room}
use Rattle.dat_header.proofs.Wrongs.{Right, one_item, right_item, right_made, rights_then, rights_none, rights_as}
use Rattle.dat_header.proofs.Texts.{reads_bytes, reads_number, reads_text, text_end}
use Rattle.dat_header.proofs.Systems.{reads_formats, formats_end, reads_systems, systems_end}
use Rattle.dat_header.proofs.Headers.{own_plain}
use Rattle.dat_header.proofs.ItemRights.{number_long, number_short, options_of, right_order, right_long, right_page, right_carried}
use Rattle.dat_header.proofs.ReadPieces.{bytes_found, bytes_short}

-- items 3 to 5
abbrev pub machine_items : Machine → List Item
machine_items machine =
    record { kind = value 1 BadEndian; bytes = order_byte machine.order ∷ [] }
    ∷ record { kind = value 1 BadLong; bytes = machine.long ∷ [] }
    ∷ record { kind = value 4 BadPageSize; bytes = bytes_of machine.order 4 machine.page }
    ∷ []

abbrev machine_of : Order → ℕ → ℕ → Machine
machine_of order long page = record { order = order; long = long; page = page }

pub right_machine : Right machine_items IsMachine machine_at
unfolding machine_at
right_machine = rights_as _ machine_items _ IsMachine _ machine_at (λ machine is. record { long = is.1.0; page = is.1.1.0 }) (λ machine is. (tt, (is.long, (is.page, refl)))) (λ machine is. refl) (λ file at. refl)
    (rights_then _ _ (λ file at. value_at 1 Little order_of (BadEndian at) file at) _ _
    (λ order file at. value_at 1 Little long_of (BadLong at) file at >>= λ long. value_at 4 order page_of (BadPageSize long.1) file long.1 >>= λ page. Ok (machine_of order long.0 page.0, page.1))
    (λ machine. machine.order) 1 right_order (λ order. refl)
    (λ order any. rights_then _ _ (λ file at. value_at 1 Little long_of (BadLong at) file at) _ _
    (λ long file at. value_at 4 order page_of (BadPageSize at) file at >>= λ page. Ok (machine_of order long page.0, page.1))
    (λ machine. machine.long) 1 right_long (λ long. refl)
    (λ long is. rights_then _ _ (λ file at. value_at 4 order page_of (BadPageSize at) file at) _ _ (λ page file at. Ok (machine_of order long page, at)) (λ machine. machine.page) 1 (right_page order) (λ page. refl)
    (λ page is. rights_none (machine_of order long page)) (λ page machine e. ap (λ (m : Machine). m.page) e))
    (λ long machine e. ap (λ (m : Machine). m.long) e.1))
    (λ order machine e. ap (λ (m : Machine). m.order) e.1.1))

-- the header_page text
abbrev page_of_text : List ℕ → Layout → PageText
page_of_text content layout = record { text = content; layout = layout }

module _ (machine : Machine) where
  abbrev page_read : List ℕ → ℕ → ℕ → List ℕ → ℕ → Found PageText
  page_read file at at_text content after = or_wrong (BadHeaderPage at_text) (layout_of machine.order machine.long machine.page content) >>= λ layout. Ok (page_of_text content layout, after)

  page_again : (file : List ℕ) (at : ℕ) (page : PageText) (rest : List ℕ) → at ≤ length file → IsPageText machine page → drop at file ≡ sized 8 machine.order page.text ++ rest
      → page_text_at machine file at ≡ Ok (page, at + length (sized 8 machine.order page.text))
  unfolding page_text_at
  page_again file at page rest within is here =
      let size = length page.text in
      let spelled = bytes_of machine.order 8 size in
      let both : drop at file ≡ spelled ++ (page.text ++ rest) = here ∙ append_assoc spelled page.text rest in
      let number = (reads_number 8 machine.order).again file at size (page.text ++ rest) within is.text both in
      let content = (reads_bytes size).again file (at + length spelled) page.text rest (room file spelled (page.text ++ rest) at within both) refl (behind file spelled (page.text ++ rest) at both) in
      at_ok (number_at 8 machine.order file at) _ size (at + length spelled) number
      ∙ at_ok (bytes_at size file (at + length spelled)) _ page.text (at + length spelled + length page.text) content
      ∙ checked_is (BadHeaderPage (at + length spelled)) (layout_of machine.order machine.long machine.page page.text) (λ layout. Ok (page_of_text page.text layout, at + length spelled + length page.text)) page.layout is.layout
      ∙ ap (λ (n : ℕ). found_value page n) (omega (arith, length-append spelled page.text))

  page_sound : (file : List ℕ) (at : ℕ) (page : PageText) (end : ℕ) → AreBytes file → at ≤ length file → page_text_at machine file at ≡ Ok (page, end)
      → Stands (λ p. sized 8 machine.order p.text) (IsPageText machine) file at page end
  unfolding page_text_at
  page_sound file at page end bytes within e = elim (err_or_ok (number_at 8 machine.order file at)) [
    | inl bad ↦ absurd (not_both _ (page, end) bad.0 e (at_err (number_at 8 machine.order file at) _ bad.0 bad.1))
    | inr size ↦
        let one = (reads_number 8 machine.order).sound file at size.0 size.1 bytes within size.2 in
        let after_size = sym (at_ok (number_at 8 machine.order file at) _ size.0 size.1 size.2) ∙ e in
        elim (err_or_ok (bytes_at size.0 file size.1)) [
          | inl bad ↦ absurd (not_both _ (page, end) bad.0 after_size (at_err (bytes_at size.0 file size.1) _ bad.0 bad.1))
          | inr content ↦
              let two = (reads_bytes size.0).sound file size.1 content.0 content.1 bytes one.inside content.2 in
              let after = sym (at_ok (bytes_at size.0 file size.1) _ content.0 content.1 content.2) ∙ after_size in
              elim (options_of (layout_of machine.order machine.long machine.page content.0)) [
                | inl none ↦ absurd (not_both _ (page, end) (BadHeaderPage size.1) after (checked_not (BadHeaderPage size.1) _ _ none))
                | inr layout ↦
                    let same = same_value _ (page_of_text content.0 layout.0) page content.1 end (checked_is (BadHeaderPage size.1) _ _ layout.0 layout.1) after in
                    let P : PageText → Type 0 = λ p. Stands (λ q. sized 8 machine.order q.text) (IsPageText machine) file at p end in
                    let spelled : bytes_of machine.order 8 size.0 ≡ bytes_of machine.order 8 (length content.0) = ap (bytes_of machine.order 8) (sym two.is) in
                    subst P same.0 (record {
                      is = record { text = omega (arith, two.is, one.is); layout = layout.1 };
                      here = one.here ∙ ap (λ (t : List ℕ). bytes_of machine.order 8 size.0 ++ t) two.here ∙ sym (append_assoc (bytes_of machine.order 8 size.0) content.0 (drop content.1 file))
                          ∙ ap (λ (t : List ℕ). (t ++ content.0) ++ drop content.1 file) spelled ∙ ap (λ (n : ℕ). sized 8 machine.order content.0 ++ drop n file) same.1;
                      place = omega (arith, same.1, one.place, two.place, ap length spelled, length-append (bytes_of machine.order 8 (length content.0)) content.0);
                      inside = omega (arith, same.1, two.inside);
                    })
              ]
        ]
  ]

  abbrev page_fault : Bool → Bool → ℕ → ℕ → OpenFault
  page_fault few short size at = cond few (Truncated size) (cond short (Truncated size) (BadHeaderPage (at + 8)))

  page_fails : (file : List ℕ) (at : ℕ) (fault : OpenFault) → AreBytes file → at ≤ length file → page_text_at machine file at ≡ Err fault → fault ≡ fault_at (page_text machine.order) file at
  unfolding page_text_at
  page_fails file at fault bytes within e = elim (cases_lt (length file) (at + 8)) [
    | inl few ↦
        let test : ltb (length (drop at file)) 8 ≡ true = lt-ltb _ _ (omega (arith, few, length-drop at file)) in
        same_fault _ fault (Truncated (length file)) e (at_err (number_at 8 machine.order file at) _ (Truncated (length file)) (number_short 8 machine.order file at within few))
        ∙ ap (λ (b : Bool). page_fault b (ltb (length (drop (at + 8) file)) (num machine.order (take 8 (drop at file)))) (length file) at) (sym test)
    | inr enough ↦
        let size = num machine.order (take 8 (drop at file)) in
        let many : ltb (length (drop at file)) 8 ≡ false = le-ltb _ _ (omega (arith, enough, length-drop at file)) in
        let after_size = sym (at_ok (number_at 8 machine.order file at) _ size (at + 8) (number_long 8 machine.order file at enough)) ∙ e in
        elim (cases_lt (length file) (at + 8 + size)) [
          | inl short ↦
              let test : ltb (length (drop (at + 8) file)) size ≡ true = lt-ltb _ _ (omega (arith, short, enough, length-drop (at + 8) file)) in
              same_fault _ fault (Truncated (length file)) after_size (at_err (bytes_at size file (at + 8)) _ (Truncated (length file)) (bytes_short size (at + 8) file enough short))
              ∙ ap (λ (b : Bool). page_fault false b (length file) at) (sym test) ∙ ap (λ (b : Bool). page_fault b (ltb (length (drop (at + 8) file)) size) (length file) at) (sym many)
          | inr whole ↦
              let test : ltb (length (drop (at + 8) file)) size ≡ false = le-ltb _ _ (omega (arith, whole, length-drop (at + 8) file)) in
              let content = take size (drop (at + 8) file) in
              let after = sym (at_ok (bytes_at size file (at + 8)) _ content (at + 8 + size) (bytes_found size (at + 8) file whole)) ∙ after_size in
              elim (options_of (layout_of machine.order machine.long machine.page content)) [
                | inl none ↦
                    same_fault _ fault (BadHeaderPage (at + 8)) after (checked_not (BadHeaderPage (at + 8)) _ _ none)
                    ∙ ap (λ (b : Bool). page_fault false b (length file) at) (sym test) ∙ ap (λ (b : Bool). page_fault b (ltb (length (drop (at + 8) file)) size) (length file) at) (sym many)
                | inr layout ↦ absurd (not_both _ (page_of_text content layout.0, at + 8 + size) fault (checked_is (BadHeaderPage (at + 8)) _ _ layout.0 layout.1) after)
              ]
        ]
  ]

  plain_page : IsAllowed 0 8 machine.long (8 + machine.long) machine.page → PageText
  plain_page allowed = page_of_text [] (plain_layout machine.order machine.long machine.page allowed)

  plain_is : (allowed : IsAllowed 0 8 machine.long (8 + machine.long) machine.page) → IsPageText machine (plain_page allowed)
  unfolding plain_page layout_of
  plain_is allowed = record {
    text = omega arith;
    layout = sym (layout_is machine.order 0 8 machine.long (8 + machine.long) machine.page allowed (test_is 0 8 machine.long (8 + machine.long) machine.page allowed));
  }

  pub right_page_text : IsMachine machine → Right (one_item (page_text machine.order) (λ page. sized 8 machine.order page.text)) (IsPageText machine) (page_text_at machine)
  right_page_text is =
      let allowed = own_plain machine.long machine.page is.long is.page in
      right_item (page_text machine.order) (λ page. sized 8 machine.order page.text) (IsPageText machine) (page_text_at machine) (plain_page allowed) (plain_is allowed) (record { again = page_again; sound = page_sound }) page_fails

-- the texts that are carried unread, up to the command lines
abbrev pub described_items : Order → Described → List Item
described_items order texts =
    record { kind = carried; bytes = sized 8 order texts.event_text }
    ∷ record { kind = carried; bytes = formats_text order texts.ftrace }
    ∷ record { kind = carried; bytes = systems_text order texts.systems }
    ∷ record { kind = carried; bytes = sized 4 order texts.kallsyms }
    ∷ record { kind = carried; bytes = sized 4 order texts.printk }
    ∷ []

-- and with them
abbrev pub carried_items : Order → Carried → List Item
carried_items order texts = described_items order texts.described ++ one_item carried (sized 8 order) texts.cmdlines

pub right_text : (width : ℕ) (order : Order) → 0 < limit width → Right (one_item carried (sized width order)) (λ content. length content < limit width) (text_at width order)
right_text width order some = right_carried (sized width order) (λ content. length content < limit width) (text_at width order) [] some (reads_text width order) (text_end width order)

right_formats : (order : Order) → Right (one_item carried (formats_text order)) AreFormats (formats_at order)
right_formats order = right_carried (formats_text order) AreFormats (formats_at order) [] (record { counted = omega arith; sized = λ k d h. absurd (omega arith) }) (reads_formats order) (formats_end order)

right_systems : (order : Order) → Right (one_item carried (systems_text order)) AreSystems (systems_at order)
right_systems order = right_carried (systems_text order) AreSystems (systems_at order) [] (record { counted = omega arith; each = λ k d h. absurd (omega arith) }) (reads_systems order) (systems_end order)

abbrev described_of : List ℕ → List (List ℕ) → List System → List ℕ → List ℕ → Described
described_of event_text ftrace systems kallsyms printk = record { event_text = event_text; ftrace = ftrace; systems = systems; kallsyms = kallsyms; printk = printk }

abbrev carried_of : Described → List ℕ → Carried
carried_of described cmdlines = record { described = described; cmdlines = cmdlines }

module _ (order : Order) where
  abbrev described_1 : List ℕ → List ℕ → ℕ → Found Described
  described_1 e file at = formats_at order file at >>= λ f. systems_at order file f.1 >>= λ s. text_at 4 order file s.1 >>= λ k. text_at 4 order file k.1 >>= λ p. Ok (described_of e f.0 s.0 k.0 p.0, p.1)

  abbrev described_2 : List ℕ → List (List ℕ) → List ℕ → ℕ → Found Described
  described_2 e f file at = systems_at order file at >>= λ s. text_at 4 order file s.1 >>= λ k. text_at 4 order file k.1 >>= λ p. Ok (described_of e f s.0 k.0 p.0, p.1)

  abbrev described_3 : List ℕ → List (List ℕ) → List System → List ℕ → ℕ → Found Described
  described_3 e f s file at = text_at 4 order file at >>= λ k. text_at 4 order file k.1 >>= λ p. Ok (described_of e f s k.0 p.0, p.1)

  abbrev described_4 : List ℕ → List (List ℕ) → List System → List ℕ → List ℕ → ℕ → Found Described
  described_4 e f s k file at = text_at 4 order file at >>= λ p. Ok (described_of e f s k p.0, p.1)

  pub right_described : Right (described_items order) IsDescribed (described_at order)
  unfolding described_at
  right_described = rights_as _ (described_items order) _ IsDescribed _ (described_at order)
      (λ texts is. record { event_text = is.0; ftrace = is.1.0; systems = is.1.1.0; kallsyms = is.1.1.1.0; printk = is.1.1.1.1.0 })
      (λ texts is. (is.event_text, (is.ftrace, (is.systems, (is.kallsyms, (is.printk, refl)))))) (λ texts is. refl) (λ file at. refl)
      (rights_then _ _ (text_at 8 order) _ _ described_1 (λ t. t.event_text) 1 (right_text 8 order (omega arith)) (λ e. refl) (λ e is. rights_then _ _ (formats_at order) _ _ (described_2 e) (λ t. t.ftrace) 1 (right_formats order) (λ f. refl)
      (λ f is. rights_then _ _ (systems_at order) _ _ (described_3 e f) (λ t. t.systems) 1 (right_systems order) (λ s. refl)
      (λ s is. rights_then _ _ (text_at 4 order) _ _ (described_4 e f s) (λ t. t.kallsyms) 1 (right_text 4 order (omega arith)) (λ k. refl)
      (λ k is. rights_then _ _ (text_at 4 order) _ _ (λ p file at. Ok (described_of e f s k p, at)) (λ t. t.printk) 1 (right_text 4 order (omega arith)) (λ p. refl) (λ p is. rights_none (described_of e f s k p)) (λ p t q. ap (λ (x : Described). x.printk) q))
      (λ k t q. ap (λ (x : Described). x.kallsyms) q.1))
      (λ s t q. ap (λ (x : Described). x.systems) q.1.1))
      (λ f t q. ap (λ (x : Described). x.ftrace) q.1.1.1)) (λ e t q. ap (λ (x : Described). x.event_text) q.1.1.1.1))

  abbrev cmdlines_1 : Described → List ℕ → ℕ → Found Carried
  cmdlines_1 d file at = text_at 8 order file at >>= λ c. Ok (carried_of d c.0, c.1)

  pub right_carried_texts : Right (carried_items order) IsCarried (carried_at order)
  unfolding carried_at
  right_carried_texts = rights_as _ (carried_items order) _ IsCarried _ (carried_at order)
      (λ texts is. record { described = is.0; cmdlines = is.1.0 }) (λ texts is. (is.described, (is.cmdlines, refl))) (λ texts is. refl) (λ file at. refl)
      (rights_then (described_items order) IsDescribed (described_at order) _ _ cmdlines_1 (λ (t : Carried). t.described) 5 right_described (λ d. refl)
      (λ d is. right_made _ (λ (content : List ℕ). length content < limit 8) (text_at 8 order) (carried_of d) (λ (t : Carried). t.cmdlines) (λ c. refl) (right_text 8 order (omega arith)))
      (λ d t e. sym (ap (λ (x : Carried). x.described) e.1)))
