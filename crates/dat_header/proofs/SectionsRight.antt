-- The sections after the number of processors are read as they are spelled, or their first wrong item is found.
use Rattle.std.proofs.Common.{◌≡◌, ℕ, zero, suc, ◌+◌, ◌≤◌, Bool, true, false, if◌then◌else◌, List, [], ◌∷◌, ◌++◌, length, take, drop, Option, None, Some, Result, Ok, Err, refl, sym, ap, subst, ◌∙◌, inl, inr, arith}
use Rattle.std.proofs.lemmas.Bool.{cases_Bool}
use Rattle.std.proofs.lemmas.List.{length-drop, length-take, take_at, take-append-drop, drop-drop}
use Rattle.std.proofs.lemmas.Slice.Eq.{bytes_eq-Decides}
use Rattle.std.specs.List.{All}
use Rattle.trace_base.specs.declared.order.Order.{Order}
use Rattle.trace_base.specs.declared.part.Part.{Part}
use Rattle.dat_options.specs.declared.option.Opt.{Opt}
use Rattle.dat_options.specs.declared.fault.OpenFault.{OpenFault}
use Rattle.dat_options.specs.declared.fault.OpenFault.TheVariants.{BadSection}
use Rattle.dat_options.specs.Options.{IsOption, options_text, options_from}
use Rattle.trace_base.specs.Parts.{part_of}
use Rattle.dat_options.specs.Table.{table_text, table_from}
use Rattle.dat_header.specs.declared.header.Body.{Body}
use Rattle.dat_header.specs.declared.header.Body.TheVariants.{Latency, Fly}
use Rattle.dat_header.specs.declared.pieces.Sections.{Sections}
use Rattle.dat_header.specs.declared.pieces.LastSection.{LastSection}
use Rattle.dat_header.specs.declared.pieces.LastSection.TheVariants as kind
use Rattle.dat_header.specs.Allowed.{IsBody}
use Rattle.dat_header.specs.Pieces.{AreSections}
use Rattle.dat_header.specs.Items.{Item, word, carried, options_word, latency_word, fly_word, section_words, body_words, section_items}
use Rattle.dat_header.specs.Refusal.{begins_with, word_fault}
use Rattle.dat_header.specs.Header.{last_in, last_word_in, last_word_at, first_word_at, body_at, behind_options_at, behind_first_at, sections_at}
use Rattle.dat_header.specs.Found.{Found, ◌>>=◌, or_wrong}
use Rattle.dat_header.proofs.Values.{checked_is, checked_not}
use Rattle.dat_header.proofs.Grammar.{Stands, found_value, not_both, same_value, same_fault}
use Rattle.dat_header.proofs.Wrongs.{Right, one_item, right_item, right_made, rights_then, rights_none, rights_as}
use Rattle.dat_header.proofs.Fronts.{reads_options, options_end, reads_table, table_end}
use Rattle.dat_header.proofs.ItemRights.{options_of, right_carried}

abbrev pub last_text : LastSection → List ℕ
last_text kind.Latency = latency_word
last_text kind.Fly = fly_word

abbrev pub first_text : Option LastSection → List ℕ
first_text None = options_word
first_text (Some last) = last_text last

-- a word of ten bytes stands at the front
word_stands : (fixed file : List ℕ) (at : ℕ) → length fixed ≡ 10 → at ≤ length file → begins_with (drop at file) fixed ≡ true → (drop at file ≡ fixed ++ drop (at + 10) file) × (at + 10 ≤ length file)
word_stands fixed file at long within stands =
    let front : take 10 (drop at file) ≡ fixed = ap (λ (n : ℕ). take n (drop at file)) (sym long) ∙ (bytes_eq-Decides (take (length fixed) (drop at file)) fixed).0 stands in
    let whole : length (take 10 (drop at file)) ≡ length fixed = ap length front in (
      sym (take-append-drop 10 (drop at file)) ∙ ap (λ t. t ++ drop 10 (drop at file)) front ∙ ap (λ t. fixed ++ t) (drop-drop 10 at file),
      omega (arith, whole, long, within, length-take 10 (drop at file), length-drop at file),
    )

abbrev last_by : Bool → Bool → Option LastSection
last_by latency fly = if latency then Some kind.Latency else if fly then Some kind.Fly else None

last_stands : (file : List ℕ) (at : ℕ) (last : LastSection) → at ≤ length file → last_in (drop at file) ≡ Some last → (drop at file ≡ last_text last ++ drop (at + 10) file) × (at + 10 ≤ length file)
last_stands file at last within e = by_tests (begins_with (drop at file) latency_word) (begins_with (drop at file) fly_word) last (word_stands latency_word file at refl within) (word_stands fly_word file at refl within) e
  where
    by_tests : (latency fly : Bool) (found : LastSection) → (latency ≡ true → (drop at file ≡ latency_word ++ drop (at + 10) file) × (at + 10 ≤ length file)) → (fly ≡ true → (drop at file ≡ fly_word ++ drop (at + 10) file) × (at + 10 ≤ length file))
        → last_by latency fly ≡ Some found → (drop at file ≡ last_text found ++ drop (at + 10) file) × (at + 10 ≤ length file)
    by_tests true fly kind.Latency one two e = one refl
    by_tests true fly kind.Fly one two e = cc
    by_tests false true kind.Fly one two e = two refl
    by_tests false true kind.Latency one two e = cc
    by_tests false false found one two e = cc

last_found : (last : LastSection) (rest : List ℕ) → last_in (last_text last ++ rest) ≡ Some last
last_found kind.Latency rest = refl
last_found kind.Fly rest = refl

last_not_options : (last : LastSection) (rest : List ℕ) → begins_with (last_text last ++ rest) options_word ≡ false
last_not_options kind.Latency rest = refl
last_not_options kind.Fly rest = refl

last_long : (last : LastSection) → length (last_text last) ≡ 10
last_long kind.Latency = refl
last_long kind.Fly = refl

abbrev AnyLast : LastSection → Type 0
AnyLast last = Unit {0}

abbrev AnyFirst : Option LastSection → Type 0
AnyFirst first = Unit {0}

abbrev ten : {V : Type 0} → ℕ → V → Found V
ten at v = Ok (v, at + 10)

pub right_last : (words : List (List ℕ)) → Right (one_item (word words BadSection) last_text) AnyLast (last_word_at words)
unfolding last_word_at
right_last words = right_item (word words BadSection) last_text AnyLast (last_word_at words) kind.Latency tt (record {
  again = λ file at last rest within is here.
      checked_is (word_fault words (BadSection at) (drop at file) (length file)) (last_in (drop at file)) (ten at) last (ap last_in here ∙ last_found last rest)
      ∙ ap (λ (n : ℕ). found_value last (at + n)) (sym (last_long last));
  sound = λ file at last end bytes within e. elim (options_of (last_in (drop at file))) [
    | inl none ↦ absurd (not_both _ (last, end) (word_fault words (BadSection at) (drop at file) (length file)) e (checked_not _ _ (ten at) none))
    | inr found ↦
        let stands = last_stands file at found.0 within found.1 in
        let same = same_value _ found.0 last (at + 10) end (checked_is (word_fault words (BadSection at) (drop at file) (length file)) _ (ten at) found.0 found.1) e in
        let P : LastSection → Type 0 = λ l. Stands last_text AnyLast file at l end in
        subst P same.0 (record {
          is = tt;
          here = stands.0 ∙ ap (λ (n : ℕ). last_text found.0 ++ drop n file) same.1;
          place = omega (arith, same.1, last_long found.0);
          inside = omega (arith, same.1, stands.1);
        })
  ];
}) (λ file at fault bytes within e. elim (options_of (last_in (drop at file))) [
  | inl none ↦ same_fault _ fault (word_fault words (BadSection at) (drop at file) (length file)) e (checked_not _ _ (ten at) none)
  | inr found ↦ absurd (not_both _ (found.0, at + 10) fault (checked_is (word_fault words (BadSection at) (drop at file) (length file)) _ (ten at) found.0 found.1) e)
])

abbrev first_by : Bool → Result LastSection OpenFault → Result (Option LastSection) OpenFault
first_by options last = if options then Ok None else (last >>= λ l. Ok (Some l))

abbrev first_found : ℕ → Result (Option LastSection) OpenFault → Found (Option LastSection)
first_found at first = first >>= ten at

first_is_options : (file : List ℕ) (at : ℕ) → begins_with (drop at file) options_word ≡ true → first_word_at file at ≡ Ok (None, at + 10)
unfolding first_word_at
first_is_options file at stands = ap (λ (b : Bool). first_found at (first_by b (last_word_in section_words at (drop at file) (length file)))) stands

first_is_last : (file : List ℕ) (at : ℕ) (last : LastSection) → begins_with (drop at file) options_word ≡ false → last_in (drop at file) ≡ Some last → first_word_at file at ≡ Ok (Some last, at + 10)
unfolding first_word_at
first_is_last file at last other is =
    ap (λ (b : Bool). first_found at (first_by b (last_word_in section_words at (drop at file) (length file)))) other
    ∙ ap (λ (o : Option LastSection). first_found at (first_by false (or_wrong (word_fault section_words (BadSection at) (drop at file) (length file)) o))) is

first_is_wrong : (file : List ℕ) (at : ℕ) → begins_with (drop at file) options_word ≡ false → last_in (drop at file) ≡ None
    → first_word_at file at ≡ Err (word_fault section_words (BadSection at) (drop at file) (length file))
unfolding first_word_at
first_is_wrong file at other is =
    ap (λ (b : Bool). first_found at (first_by b (last_word_in section_words at (drop at file) (length file)))) other
    ∙ ap (λ (o : Option LastSection). first_found at (first_by false (or_wrong (word_fault section_words (BadSection at) (drop at file) (length file)) o))) is

first_again : (file : List ℕ) (at : ℕ) (first : Option LastSection) (rest : List ℕ) → drop at file ≡ first_text first ++ rest → first_word_at file at ≡ Ok (first, at + length (first_text first))
first_again file at None rest here = first_is_options file at ((bytes_eq-Decides (take 10 (drop at file)) options_word).1 (ap (take 10) here ∙ take_at options_word rest 10 refl))
first_again file at (Some last) rest here =
    first_is_last file at last (ap (λ (t : List ℕ). begins_with t options_word) here ∙ last_not_options last rest) (ap last_in here ∙ last_found last rest)
    ∙ ap (λ (n : ℕ). found_value (Some last) (at + n)) (sym (last_long last))

first_sound : (file : List ℕ) (at : ℕ) (first : Option LastSection) (end : ℕ) → at ≤ length file → first_word_at file at ≡ Ok (first, end) → Stands first_text AnyFirst file at first end
first_sound file at first end within e =
    let P : Option LastSection → Type 0 = λ f. Stands first_text AnyFirst file at f end in
    elim (cases_Bool (begins_with (drop at file) options_word)) [
      | inl options ↦
          let stands = word_stands options_word file at refl within options in
          let same = same_value _ None first (at + 10) end (first_is_options file at options) e in
          subst P same.0 (record { is = tt; here = stands.0 ∙ ap (λ (n : ℕ). options_word ++ drop n file) same.1; place = sym same.1; inside = omega (arith, same.1, stands.1) })
      | inr other ↦ elim (options_of (last_in (drop at file))) [
        | inl none ↦ absurd (not_both _ (first, end) (word_fault section_words (BadSection at) (drop at file) (length file)) e (first_is_wrong file at other none))
        | inr found ↦
            let stands = last_stands file at found.0 within found.1 in
            let same = same_value _ (Some found.0) first (at + 10) end (first_is_last file at found.0 other found.1) e in
            subst P same.0 (record {
              is = tt;
              here = stands.0 ∙ ap (λ (n : ℕ). last_text found.0 ++ drop n file) same.1;
              place = omega (arith, same.1, last_long found.0);
              inside = omega (arith, same.1, stands.1);
            })
      ]
    ]

pub right_first : Right (one_item (word section_words BadSection) first_text) AnyFirst first_word_at
right_first = right_item (word section_words BadSection) first_text AnyFirst first_word_at None tt (record {
  again = λ file at first rest within is here. first_again file at first rest here;
  sound = λ file at first end bytes within e. first_sound file at first end within e;
}) (λ file at fault bytes within e. elim (cases_Bool (begins_with (drop at file) options_word)) [
  | inl options ↦ absurd (not_both _ (None, at + 10) fault (first_is_options file at options) e)
  | inr other ↦ elim (options_of (last_in (drop at file))) [
    | inl none ↦ same_fault _ fault (word_fault section_words (BadSection at) (drop at file) (length file)) e (first_is_wrong file at other none)
    | inr found ↦ absurd (not_both _ (Some found.0, at + 10) fault (first_is_last file at found.0 other found.1) e)
  ]
])

-- what a body is, and its parts
abbrev pub last_of : Body → LastSection
last_of Latency = kind.Latency
last_of (Fly parts) = kind.Fly

abbrev pub parts_of : Body → List Part
parts_of Latency = []
parts_of (Fly parts) = parts

abbrev pub first_of : Sections → Option LastSection
first_of sections = elim sections.options [ None ↦ Some (last_of sections.body) | Some options ↦ None ]

abbrev pub options_in : Sections → List Opt
options_in sections = elim sections.options [ None ↦ [] | Some options ↦ options ]

module _ (order : Order) (cpus : ℕ) where
  abbrev rest_items : LastSection → Body → List Item
  rest_items kind.Latency body = []
  rest_items kind.Fly body = one_item carried (table_text order) (parts_of body)

  abbrev RestIs : LastSection → Body → Type 0
  RestIs kind.Latency body = body ≡ Latency
  RestIs kind.Fly body = (length (parts_of body) ≡ cpus) × (Fly (parts_of body) ≡ body)

  no_parts : ℕ → List Part
  no_parts zero = []
  no_parts (suc n) = part_of 0 0 ∷ no_parts n

  no_parts_are : (n : ℕ) → length (no_parts n) ≡ n
  unfolding no_parts
  no_parts_are zero = refl
  no_parts_are (suc n) = ap suc (no_parts_are n)

  right_rest : (last : LastSection) → Right (rest_items last) (RestIs last) (body_at order cpus last)
  right_rest kind.Latency = rights_none Latency
  right_rest kind.Fly = right_made (one_item carried (table_text order)) (λ parts. length parts ≡ cpus) (λ file at. table_from order cpus at file) (λ parts. Fly parts) parts_of (λ parts. refl)
      (right_carried (table_text order) (λ parts. length parts ≡ cpus) (λ file at. table_from order cpus at file) (no_parts cpus) (no_parts_are cpus) (reads_table order cpus) (table_end order cpus))

  -- after the first word
  abbrev behind_items : Option LastSection → Sections → List Item
  behind_items None sections = one_item carried (options_text order) (options_in sections) ++ (one_item (word body_words BadSection) last_text (last_of sections.body) ++ rest_items (last_of sections.body) sections.body)
  behind_items (Some last) sections = rest_items last sections.body

  abbrev with_options : List Opt → Body → Sections
  with_options options body = record { options = Some options; body = body }

  abbrev without_options : Body → Sections
  without_options body = record { options = None; body = body }

  abbrev BehindIs : Option LastSection → Sections → Type 0
  BehindIs None sections = All IsOption (options_in sections) × (AnyLast (last_of sections.body) × (RestIs (last_of sections.body) sections.body × (with_options (options_in sections) sections.body ≡ sections)))
  BehindIs (Some last) sections = RestIs last sections.body × (without_options sections.body ≡ sections)

  rest_last : (last : LastSection) (body : Body) → RestIs last body → last_of body ≡ last
  rest_last kind.Latency body is = ap last_of is
  rest_last kind.Fly body is = ap last_of (sym is.1)

  right_behind : (first : Option LastSection) → Right (behind_items first) (BehindIs first) (behind_first_at order cpus first)
  unfolding behind_options_at
  right_behind None = rights_then (one_item carried (options_text order)) (All IsOption) (λ file at. options_from order at file) _ _
      (λ options file at. last_word_at body_words file at >>= λ last. body_at order cpus last.0 file last.1 >>= λ body. Ok (with_options options body.0, body.1)) options_in 1
      (right_carried (options_text order) (All IsOption) (λ file at. options_from order at file) [] (λ k d h. absurd (omega arith)) (reads_options order) (options_end order)) (λ options. refl)
      (λ options are. rights_then (one_item (word body_words BadSection) last_text) AnyLast (last_word_at body_words) _ _
      (λ last file at. body_at order cpus last file at >>= λ body. Ok (with_options options body.0, body.1)) (λ sections. last_of sections.body) 1 (right_last body_words) (λ last. refl)
      (λ last any. right_made (rest_items last) (RestIs last) (body_at order cpus last) (with_options options) (λ sections. sections.body) (λ body. refl) (right_rest last))
      (λ last sections is. rest_last last sections.body is.0))
      (λ options sections is. sym (ap options_in is.1.1))
  right_behind (Some last) = right_made (rest_items last) (RestIs last) (body_at order cpus last) without_options (λ sections. sections.body) (λ body. refl) (right_rest last)

  behind_first : (first : Option LastSection) (sections : Sections) → BehindIs first sections → first_of sections ≡ first
  behind_first None sections is = sym (ap first_of is.1.1.1)
  behind_first (Some last) sections is = sym (ap first_of is.1) ∙ ap (λ (l : LastSection). let f : Option LastSection = Some l in f) (rest_last last sections.body is.0)

  abbrev pub its_items : Sections → List Item
  its_items sections = section_items order sections.options sections.body

  same_items : (options : Option (List Opt)) (body : Body) → (let sections : Sections = record { options = options; body = body } in one_item (word section_words BadSection) first_text (first_of sections) ++ behind_items (first_of sections) sections)
      ≡ section_items order options body
  same_items None Latency = refl
  same_items None (Fly parts) = refl
  same_items (Some options) Latency = refl
  same_items (Some options) (Fly parts) = refl

  are_behind : (first : Option LastSection) (sections : Sections) → BehindIs first sections → AreSections cpus sections
  are_behind None sections is = subst (AreSections cpus) is.1.1.1 (record { options = is.0; body = rest_body (last_of sections.body) sections.body is.1.1.0 })
    where
      rest_body : (last : LastSection) (body : Body) → RestIs last body → IsBody cpus body
      rest_body kind.Latency body is = subst (IsBody cpus) (sym is) tt
      rest_body kind.Fly body is = subst (IsBody cpus) is.1 is.0
  are_behind (Some last) sections is = subst (AreSections cpus) is.1 (record { options = tt; body = rest_body last sections.body is.0 })
    where
      rest_body : (last : LastSection) (body : Body) → RestIs last body → IsBody cpus body
      rest_body kind.Latency body is = subst (IsBody cpus) (sym is) tt
      rest_body kind.Fly body is = subst (IsBody cpus) is.1 is.0

  rest_is : (body : Body) → IsBody cpus body → RestIs (last_of body) body
  rest_is Latency is = refl
  rest_is (Fly parts) is = (is, refl)

  behind_is : (options : Option (List Opt)) (body : Body) → (let sections : Sections = record { options = options; body = body } in AreSections cpus sections → AnyFirst (first_of sections) × BehindIs (first_of sections) sections)
  behind_is None body is = (tt, (rest_is body is.body, refl))
  behind_is (Some options) body is = (tt, (is.options, (tt, (rest_is body is.body, refl))))

  pub right_sections : Right its_items (AreSections cpus) (sections_at order cpus)
  unfolding sections_at
  right_sections = rights_as _ its_items _ (AreSections cpus) _ (sections_at order cpus)
      (λ sections is. are_behind (first_of sections) sections is.1) (λ sections is. behind_is sections.options sections.body is) (λ sections is. same_items sections.options sections.body) (λ file at. refl)
      (rights_then (one_item (word section_words BadSection) first_text) AnyFirst first_word_at behind_items BehindIs (λ first file at. behind_first_at order cpus first file at) first_of 1 right_first (λ first. refl) (λ first any. right_behind first) behind_first)
