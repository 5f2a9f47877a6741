-- The bytes of a generated file, laid one after another, and what is read from them.
use Rattle.std.proofs.Common.{◌≡◌, ℕ, zero, suc, ◌+◌, ◌-◌, ◌*◌, ◌^◌, ◌≤◌, List, [], ◌∷◌, ◌++◌, length, map, Option, Some, None, Result, Ok, Err, OnOk, refl, sym, ap, subst, ◌∙◌, inl, inr, append_assoc, append-nil, arith}
use Rattle.std.specs.List.{All}
use Rattle.std.proofs.lemmas.Bool.{cases_eq}
use Rattle.std.proofs.lemmas.List.{length-append, length-replicate}
use Rattle.std.proofs.lemmas.List.Elements.{All-nil, All-cons, All-append}
use Rattle.trace_base.specs.declared.part.Part.{Part}
use Rattle.trace_base.specs.Layout.{IsLayout}
use Rattle.trace_base.specs.Parts.{part_of}
use Rattle.trace_base.proofs.PartNumbers.{part_is}
use Rattle.trace_base.proofs.Layouts.{carried}
use Rattle.trace_outside.specs.Writing.{Gained}
use Rattle.trace_outside.proofs.Gains.{gained_both}
use Rattle.dat_header.specs.Header.{header_of}
use Rattle.dat_header.specs.Spelling.{SpellsHeader}
use Rattle.dat_header.specs.Written.{header_text, written}
use Rattle.dat_header.proofs.HeaderLaws.{reads_back}
use Rattle.subpage.specs.ItemData.{ItemData}
use Rattle.subpage.specs.Processor.{list_of, bad_of}
use Rattle.page_write.specs.PageBytes.{IsPackable}
use Rattle.page_write.specs.Record.{zeros}
use Rattle.page_write.specs.Pack.{packed, pack}
use Rattle.page_write.specs.Placed.{parts_from, data_of}
use Rattle.page_write.proofs.Lifting.{all_fit, file_again, pack_len}
use Rattle.trace_gen.specs.Generated.{cpu_at, event_at, events_of, lists_of}
use Rattle.trace_gen.specs.GeneratedHeader.{generated_layout, header_but_parts}
use Rattle.trace_gen.specs.GeneratedFile.{IsGenerated, front_len, generated_parts, front_text, file_text}
use Rattle.trace_gen.proofs.Drawn.{events_more, events_same}
use Rattle.trace_gen.proofs.Written.{event_packable}
use Rattle.trace_gen.proofs.Fronts.{header_len}

pub some_is : (a b : List ℕ) → Some a ≡ Some b → a ≡ b
some_is a b e = cc

pub three_gained : {T E : Type 0} (r : Result T E) (before one two now : Option (List ℕ)) (a b c : List ℕ) → Gained before one a → Gained one two b → OnOk r (Gained two now c) → OnOk r (Gained before now (a ++ (b ++ c)))
three_gained (Ok x) before one two now a b c first second third = gained_both before one now a (b ++ c) first (gained_both one two now b c second third)
three_gained (Err e) before one two now a b c first second third = tt

pub is_layout : IsLayout generated_layout
is_layout = carried generated_layout

events_packable : (seed cpu n : ℕ) → n ≤ 2 ^ 32 → All (IsPackable generated_layout) (events_of seed cpu n)
unfolding events_of
events_packable seed cpu zero few = All-nil (IsPackable generated_layout)
events_packable seed cpu (suc n) few =
    let same : suc n ≡ n + 1 = omega arith in
    let before = events_packable seed cpu n (omega (arith, few)) in
    let this = event_packable generated_layout seed n is_layout (omega (arith, few)) in
    elim (cases_eq (cpu_at seed n) cpu) [
      | inl own ↦ subst (λ (xs : List ItemData). All (IsPackable generated_layout) xs) (sym (ap (events_of seed cpu) same ∙ events_more seed cpu n own))
          (All-append (IsPackable generated_layout) (events_of seed cpu n) (event_at seed n ∷ []) before (All-cons (IsPackable generated_layout) (event_at seed n) [] this (All-nil (IsPackable generated_layout))))
      | inr other ↦ subst (λ (xs : List ItemData). All (IsPackable generated_layout) xs) (sym (ap (events_of seed cpu) same ∙ events_same seed cpu n other)) before
    ]

lists_packable : (seed n : ℕ) → n ≤ 2 ^ 32 → All (All (IsPackable generated_layout)) (lists_of seed n)
lists_packable seed n few =
    let e1 = events_of seed 1 n in
    let e2 = events_of seed 2 n in
    let e3 = events_of seed 3 n in
    All-cons (All (IsPackable generated_layout)) (events_of seed 0 n) (e1 ∷ e2 ∷ e3 ∷ []) (events_packable seed 0 n few)
    (All-cons (All (IsPackable generated_layout)) e1 (e2 ∷ e3 ∷ []) (events_packable seed 1 n few)
    (All-cons (All (IsPackable generated_layout)) e2 (e3 ∷ []) (events_packable seed 2 n few)
    (All-cons (All (IsPackable generated_layout)) e3 [] (events_packable seed 3 n few) (All-nil (All (IsPackable generated_layout))))))

size_is : (seed cpu n : ℕ) → n ≤ 2 ^ 32 → length (pack generated_layout (events_of seed cpu n)) ≡ length (packed generated_layout (events_of seed cpu n)) * 4096
size_is seed cpu n few = pack_len generated_layout (events_of seed cpu n) is_layout (events_packable seed cpu n few)

grown : (a b t : List ℕ) → Gained (Some a) (Some b) t → b ≡ a ++ t
grown a b t g = cc

abbrev StandsThere : Part → ℕ → ℕ → Type 0
StandsThere part place len = (part.offset ≡ place) × (part.size ≡ len)

is_part : (part : Part) (at size place len : ℕ) → StandsThere part at size → at ≡ place → size ≡ len → part ≡ part_of place len
is_part part at size place len there at_is size_is =
    sym (part_is part) ∙ ap (λ (n : ℕ). part_of n part.size) (there.0 ∙ at_is) ∙ ap (part_of place) (there.1 ∙ size_is)

cons_is : (part other : Part) (parts others : List Part) → part ≡ other → parts ≡ others → part ∷ parts ≡ other ∷ others
cons_is part other parts others one rest = ap (λ (p : Part). p ∷ parts) one ∙ ap (λ (ps : List Part). other ∷ ps) rest

-- the data of the processors, appended one after another
pub record AreAppended (seed n : ℕ) (start one two three all : List ℕ) : Type 0 where
  pub none : start ≡ []
  pub first : Gained (Some start) (Some one) (pack generated_layout (events_of seed 0 n))
  pub second : Gained (Some one) (Some two) (pack generated_layout (events_of seed 1 n))
  pub third : Gained (Some two) (Some three) (pack generated_layout (events_of seed 2 n))
  pub fourth : Gained (Some three) (Some all) (pack generated_layout (events_of seed 3 n))

pub data_laid : (seed n : ℕ) (start one two three all : List ℕ) → AreAppended seed n start one two three all → all ≡ data_of generated_layout (lists_of seed n)
unfolding data_of
data_laid seed n start one two three all a =
    let p0 = pack generated_layout (events_of seed 0 n) in
    let p1 = pack generated_layout (events_of seed 1 n) in
    let p2 = pack generated_layout (events_of seed 2 n) in
    let p3 = pack generated_layout (events_of seed 3 n) in
    grown three all p3 a.fourth
    ∙ ap (λ (t : List ℕ). t ++ p3) (grown two three p2 a.third ∙ ap (λ (t : List ℕ). t ++ p2) (grown one two p1 a.second ∙ ap (λ (t : List ℕ). t ++ p1) (grown start one p0 a.first ∙ ap (λ (t : List ℕ). t ++ p0) a.none)))
    ∙ append_assoc (p0 ++ p1) p2 p3
    ∙ append_assoc p0 p1 (p2 ++ p3)
    ∙ ap (λ (t : List ℕ). p0 ++ (p1 ++ (p2 ++ t))) (sym (append-nil p3))

pub parts_laid : (seed n : ℕ) (start one two three all : List ℕ) (p0 p1 p2 p3 : Part) → n ≤ 2 ^ 32 → AreAppended seed n start one two three all
    → StandsThere p0 (front_len + length start) (length (pack generated_layout (events_of seed 0 n)))
    → StandsThere p1 (front_len + length one) (length (pack generated_layout (events_of seed 1 n)))
    → StandsThere p2 (front_len + length two) (length (pack generated_layout (events_of seed 2 n)))
    → StandsThere p3 (front_len + length three) (length (pack generated_layout (events_of seed 3 n)))
    → p0 ∷ p1 ∷ p2 ∷ p3 ∷ [] ≡ generated_parts seed n
unfolding parts_from
parts_laid seed n start one two three all p0 p1 p2 p3 few a is0 is1 is2 is3 =
    let t0 = pack generated_layout (events_of seed 0 n) in
    let t1 = pack generated_layout (events_of seed 1 n) in
    let t2 = pack generated_layout (events_of seed 2 n) in
    let s0 = size_is seed 0 n few in
    let s1 = size_is seed 1 n few in
    let s2 = size_is seed 2 n few in
    let s3 = size_is seed 3 n few in
    let l0 : length start ≡ 0 = ap length a.none in
    let l1 : length one ≡ length start + length t0 = ap length (grown start one t0 a.first) ∙ length-append start t0 in
    let l2 : length two ≡ length one + length t1 = ap length (grown one two t1 a.second) ∙ length-append one t1 in
    let l3 : length three ≡ length two + length t2 = ap length (grown two three t2 a.third) ∙ length-append two t2 in
    cons_is p0 _ _ _ (is_part p0 _ _ _ _ is0 (omega (arith, l0)) s0)
    (cons_is p1 _ _ _ (is_part p1 _ _ _ _ is1 (omega (arith, l0, l1, s0)) s1)
    (cons_is p2 _ _ _ (is_part p2 _ _ _ _ is2 (omega (arith, l0, l1, l2, s0, s1)) s2)
    (cons_is p3 _ [] [] (is_part p3 _ _ _ _ is3 (omega (arith, l0, l1, l2, l3, s0, s1, s2)) s3) refl)))

pub parts_four : (seed n : ℕ) → length (generated_parts seed n) ≡ 4
unfolding parts_from
parts_four seed n = refl

pub file_laid : (seed n : ℕ) (start bytes stored : List ℕ) (parts : List Part) → start ≡ [] → parts ≡ generated_parts seed n → stored ≡ data_of generated_layout (lists_of seed n)
    → Gained (Some start) (Some bytes) (header_text header_but_parts parts ++ (zeros (front_len - length (header_text header_but_parts parts)) ++ stored)) → bytes ≡ file_text seed n
unfolding file_text front_text
file_laid seed n start bytes stored parts none parts_are data_is gained =
    let header = header_text header_but_parts (generated_parts seed n) in
    grown start bytes _ gained
    ∙ ap (λ (t : List ℕ). t ++ (header_text header_but_parts parts ++ (zeros (front_len - length (header_text header_but_parts parts)) ++ stored))) none
    ∙ ap (λ (ps : List Part). header_text header_but_parts ps ++ (zeros (front_len - length (header_text header_but_parts ps)) ++ stored)) parts_are
    ∙ ap (λ (t : List ℕ). header ++ (zeros (front_len - length header) ++ t)) data_is
    ∙ sym (append_assoc header (zeros (front_len - length header)) (data_of generated_layout (lists_of seed n)))

length-front : (seed n : ℕ) → length (front_text seed n) ≡ front_len
unfolding front_text
length-front seed n =
    let header = header_text header_but_parts (generated_parts seed n) in
    omega (arith, length-append header (zeros (front_len - length header)), length-replicate {A = ℕ} (front_len - length header) 0, header_len (generated_parts seed n) (parts_four seed n))

pub is_generated : (seed n : ℕ) (bytes : List ℕ) → n ≤ 2 ^ 32 → bytes ≡ file_text seed n → length bytes ≤ 2 ^ 64
    → SpellsHeader (written header_but_parts (generated_parts seed n)) (header_text header_but_parts (generated_parts seed n)) → IsGenerated seed n bytes
unfolding file_text front_text
is_generated seed n bytes few is short spells = subst (λ (t : List ℕ). IsGenerated seed n t) (sym is) whole
  where
    whole : IsGenerated seed n (file_text seed n)
    whole =
        let header = header_text header_but_parts (generated_parts seed n) in
        let padding = zeros (front_len - length header) in
        let stored = data_of generated_layout (lists_of seed n) in
        let front = front_text seed n in
        let parted : (header ++ padding) ++ stored ≡ header ++ (padding ++ stored) = append_assoc header padding stored in
        let long : length front + length stored ≤ 2 ^ 64 = omega (arith, length-append front stored, ap length is, short) in
        let read = file_again generated_layout front (lists_of seed n) is_layout (lists_packable seed n few) (all_fit generated_layout (lists_of seed n) (omega (arith, length-front seed n, long))) long in
        let placed = subst (λ at. (map (list_of generated_layout (front ++ stored)) (parts_from generated_layout at (lists_of seed n)) ≡ lists_of seed n) × (All (λ part. bad_of generated_layout (front ++ stored) part ≡ None) (parts_from generated_layout at (lists_of seed n)))) (length-front seed n) read in
        record {
          parts = generated_parts seed n;
          header = (header, spells, (padding ++ stored, parted));
          header_is = ap header_of parted ∙ reads_back (written header_but_parts (generated_parts seed n)) header (padding ++ stored) spells;
          lists = placed.0;
          sound = placed.1;
        }
