-- Whatever ends the rounds, no more was read than is due by what was written.
use Rattle.std.proofs.Common.{◌+◌, ◌≡◌, ℕ, zero, suc, ◌-◌, ◌*◌, ◌<◌, ◌≤◌, Bool, true, false, List, [], ◌∷◌, ◌++◌, length, take, get_or, sum_by, Option, Some, None, Result, Ok, Err, refl, sym, ap, subst, ◌∙◌, arith, inl, inr}
use Rattle.std.specs.Prelude.{count_by, nat_eq}
use Rattle.std.specs.List.{All, starts_with}
use Rattle.std.specs.Option.{IfSome}
use lib.Pointwise.{pointwise}
use Rattle.std.proofs.lemmas.Bool.{cases_Bool, cases_eq}
use Rattle.std.proofs.lemmas.Cmp.{nat_list_eq_equiv}
use Rattle.std.proofs.lemmas.List.{take-take, take_at}
use Rattle.std.proofs.lemmas.List.Sums.{sum_by-take-le}
use Rattle.trace_base.proofs.Layouts.{carried}
use Rattle.trace_base.specs.declared.layout.Layout.{Layout}
use Rattle.trace_base.specs.declared.part.Part.{Part}
use Rattle.trace_outside.specs.Causes.{raised}
use Rattle.trace_outside.specs.Writing.{Gained}
use Rattle.trace_outside.proofs.Gains.{gained_both, gained_nothing}
use Rattle.subpage.specs.ItemData.{ItemData}
use Rattle.subpage.specs.Cut.{last_key}
use Rattle.subpage.specs.Processor.{list_of}
use Rattle.line_holes.specs.Holes.{LineText}
use Rattle.page_pool.specs.Fresh.{IsFresh}
use Rattle.page_pool.specs.Lines.{Line, Lines}
use Rattle.page_pool.specs.Limits.{most_lines}
use Rattle.page_pool.proofs.Limits.{few_lines}
use Rattle.page_pool.specs.declared.lane.Lane.{Lane}
use Rattle.page_pool.proofs.Keeping.{by_both}
use Rattle.event_cursor.specs.Standing.{Stands, left_of}
use Rattle.event_cursor.specs.Unread.{is_there_in, reading, size_from, unread}
use Rattle.event_cursor.specs.Loading.{IsReadied}
use Rattle.time_merge.specs.LaneRows.{HasLayout, parts_of}
use Rattle.time_merge.specs.Reads.{all_unread}
use Rattle.time_merge.specs.Rows.{Row}
use Rattle.time_merge.specs.declared.ending.End.{End}
use Rattle.time_merge.specs.declared.ending.End.TheVariants as code
use Rattle.time_merge.specs.declared.ending.IoFault.{IoFault}
use Rattle.time_merge.specs.declared.ending.IoFault.TheVariants as fault
use Rattle.time_merge.proofs.Starting.{fresh_stands}
use Rattle.round_print.specs.Prints.{CpuLine, filled_text}
use Rattle.report_rounds.specs.Between.{IsAtStart, IsBetween}
use Rattle.report_rounds.specs.Due.{ReadsDue, due_bytes, due_count, greatest_up_to, has_line, is_page_due, is_of, pieces_of, whole_pieces, written_pieces}
use Rattle.report_rounds.specs.Lines.{left_lines}
use Rattle.report_rounds.specs.Turns.{HasLoaded, HasPrinted, IsEnding, IsFurther, RoundState}
use Rattle.report_rounds.proofs.DueLanes.{AsksDue, HasWritten, asked_due, asks_due, fresh_all, lanes_due}
use Rattle.report_rounds.proofs.LineCounts.{one_if, waiting_count}
use Rattle.report_rounds.proofs.Pairs.{parts_on}
use Rattle.report_rounds.proofs.Reporting.{first_state}
use Rattle.report_rounds.proofs.Starting.{start_lines}
use Rattle.report_rounds.proofs.Turning.{loaded_row}

-- what passes is no greater than the greatest that passes
pub greatest_least : (n m : ℕ) (passes : ℕ → Bool) → m ≤ n → passes m ≡ true → m ≤ greatest_up_to n passes
greatest_least zero m passes le here = le
greatest_least (suc n) m passes le here = elim (cases_Bool (passes (suc n))) as (λ _. m ≤ greatest_up_to (suc n) passes) [
  | inl last ↦ rw last le
  | inr not_last ↦ elim (cases_eq m (suc n)) as (λ _. m ≤ greatest_up_to (suc n) passes) [
    | inl same ↦ absurd (never (sym here ∙ ap passes same ∙ not_last))
    | inr other ↦
        let less : m ≤ n = grind (arith, le, other) in
        rw not_last (greatest_least n m passes less here)
  ]
]
  where
    never : true ≡ false → ⊥
    never e = cc

-- the greatest passes, where 0 does
pub greatest_passes : (n : ℕ) (passes : ℕ → Bool) → passes 0 ≡ true → passes (greatest_up_to n passes) ≡ true
greatest_passes zero passes first = first
greatest_passes (suc n) passes first = elim (cases_Bool (passes (suc n))) as (λ _. passes (greatest_up_to (suc n) passes) ≡ true) [
  | inl last ↦ rw last last
  | inr not_last ↦ rw not_last (greatest_passes n passes first)
]

-- pieces of which the first few were written, and then more text
module _ (done left : List CpuLine) (rest : List ℕ) where
  abbrev pieces : List CpuLine
  pieces = done ++ left

  abbrev written : List ℕ
  written = filled_text None done ++ rest

  begins : starts_with nat_eq written (filled_text None (take (length done) pieces)) ≡ true
  begins =
      let first : take (length done) pieces ≡ done = take_at done left (length done) refl in
      let same : take (length (filled_text None done)) written ≡ filled_text None done = take_at (filled_text None done) rest (length (filled_text None done)) refl in
      subst (λ (ps : List CpuLine). starts_with nat_eq written (filled_text None ps) ≡ true) (sym first)
      (ap (pointwise nat_eq (filled_text None done)) same ∙ nat_list_eq_equiv.refl (filled_text None done))

  whole_no_less : length done ≤ whole_pieces pieces written
  whole_no_less = greatest_least (length pieces) (length done) (λ w. starts_with nat_eq written (filled_text None (take w pieces))) (length_front done left) begins
    where
      length_front : (xs ys : List CpuLine) → length xs ≤ length (xs ++ ys)
      length_front [] ys = omega arith
      length_front (x ∷ xs) ys = omega (arith, length_front xs ys)

  pub written_count : (p : CpuLine → Bool) → count_by p done ≤ count_by p (written_pieces pieces written)
  written_count p =
      let w : ℕ = whole_pieces pieces written in
      let first : take (length done) (take w pieces) ≡ done = take-take (length done) w pieces whole_no_less ∙ take_at done left (length done) refl in
      omega (arith, sum_by-take-le (λ (line : CpuLine). one_if (p line)) (take w pieces) (length done), ap (count_by p) first)

module _ (text : ℕ → ItemData → LineText) (l : Layout) (file : List ℕ) where
  -- whatever the end, the sink gained some text
  ending_gained : (before : RoundState) (new : Option (List ℕ)) (end : Result End IoFault) → IsEnding text l file before new end → (rest : List ℕ) × Gained before.written new rest
  ending_gained before new (Ok code.Done) ending = (_, ending.0)
  ending_gained before new (Ok (code.Malformed cut)) ending = (_, ending.0)
  ending_gained before new (Err fault.Read) ending = ([], ending ∙ gained_nothing before.written)
  ending_gained before new (Err fault.Write) ending = (_, ending.1)

  -- a lane at the start has all of its items left
  start_left : (a : Lane) → IsFresh a.cursor → left_of file a ≡ list_of a.layout file a.part
  start_left a f =
      let s : Stands file a = fresh_stands file a f in
      let none : s.used ≡ [] = no_items s.used (sym s.high ∙ f.high) in
      sym (s.parted ∙ ap (λ (xs : List ItemData). xs ++ left_of file a) none)
    where
      no_items : (xs : List ItemData) → last_key xs ≡ None → xs ≡ []
      no_items [] e = refl
      no_items (x ∷ xs) e = absurd cc

  -- a lane that printed some of its lines since the start, and then was loaded
  lane_written : (done whole : List CpuLine) (first a b : Lane) → IsAtStart l first → HasPrinted text file done first a → IsReadied (Some file) a b
      → ((p : CpuLine → Bool) → count_by p done ≤ count_by p whole) → HasWritten text file whole b
  lane_written done whole first a b start own load more =
      let cpu : b.cpu ≡ first.cpu = load.place.cpu ∙ own.cpu in
      let layout : b.layout ≡ first.layout = load.place.layout ∙ own.layout in
      let part : b.part ≡ first.part = load.place.part ∙ own.part in
      omega (
        arith,
        waiting_count text l file first,
        ap (λ (lines : List Line). length lines) start.kept,
        ap (count_by (has_line text first.cpu)) (start_left first start.cursor),
        own.lines,
        ap (λ (r : Row CpuLine). length r.items) (loaded_row text l file a b load.place load.left),
        waiting_count text l file b,
        ap (λ (n : ℕ). count_by (has_line text n) (list_of b.layout file b.part)) cpu,
        by_both (λ (k : Layout) (p : Part). count_by (has_line text first.cpu) (list_of k file p)) layout part,
        ap (λ (n : ℕ). count_by (is_of n) done) cpu,
        more (is_of b.cpu),
      )

  module _ (len : ℕ) (same_len : length file ≡ len) (some : 0 < l.page) (first : List Lane) (old : Option (List ℕ)) (mid : RoundState) (new : Option (List ℕ)) (before reads after : ℕ)
      (start : All (IsAtStart l) first) (going : IsFurther text file (first_state first old) mid) (all : All (IsBetween text l) mid.lanes) (parts : parts_of mid.lanes ≡ parts_of first)
      (load : HasLoaded (Some file) len mid.lanes reads after) (rest : List ℕ) where
    abbrev done_lines : List CpuLine
    done_lines = going.done

    abbrev whole_text : List ℕ
    whole_text = filled_text None done_lines ++ rest

    abbrev all_pieces : List CpuLine
    all_pieces = pieces_of text l file (parts_of first)

    whole_lines : List CpuLine
    whole_lines = written_pieces all_pieces whole_text

    whole_count : (p : CpuLine → Bool) → count_by p done_lines ≤ count_by p whole_lines
    unfolding whole_lines
    whole_count p =
        let is : done_lines ++ left_lines text file mid.lanes ≡ all_pieces = sym going.parted ∙ start_lines text l file first start in
        subst (λ (ps : List CpuLine). count_by p done_lines ≤ count_by p (written_pieces ps whole_text)) is (written_count done_lines (left_lines text file mid.lanes) rest p)

    all_due : All (AsksDue l len some (due_count text l file whole_lines)) load.now
    all_due i d lt =
        let a : Lane = get_or mid.lanes i d in
        let b : Lane = get_or load.now i d in
        let mid_lt : i < length mid.lanes = omega (arith, lt, load.long) in
        let first_lt : i < length first = omega (arith, mid_lt, going.long) in
        let one : IsReadied (Some file) a b = load.each i d mid_lt in
        let few : length b.region.kept ≤ most_lines =
        omega (arith, (all i d mid_lt).few.kept, (all i d mid_lt).few.used, few_lines a.region.limit, ap (λ (r : Lines). length r.kept) one.place.region) in
        let has : HasWritten text file whole_lines b =
        lane_written done_lines whole_lines (get_or first i d) a b (start i d first_lt) (going.own i d first_lt) one whole_count in
        let layout : b.layout ≡ l = one.place.layout ∙ (all i d mid_lt).layout_is in
        subst (λ (m : Layout). size_from m len b.part 0 + reading len b ≤ m.page * due_count text m file whole_lines (b.cpu, b.part) + unread len b) layout
        (asks_due len b (omega (arith, (carried b.layout).page_least)) (is_page_due text b.layout file whole_lines (b.cpu, b.part)) (λ k asked there.
        asked_due text file whole_lines b (one.stands (going.stands i d mid_lt)) few has k asked
        (subst (λ (n : ℕ). is_there_in b.layout n b.part k ≡ true) (sym same_len) there)))

    now_parts : parts_of load.now ≡ parts_of first
    now_parts = parts_on (IsReadied (Some file)) mid.lanes load.now load.long load.each (λ a b r. r.place.cpu) (λ a b r. r.place.part) ∙ parts

    pub reads_due : all_unread len mid.lanes ≤ all_unread len first → reads ≤ raised before (all_unread len first - all_unread len mid.lanes)
        → Gained mid.written new rest → ReadsDue text l file (parts_of first) old new before after
    unfolding due_bytes whole_lines
    reads_due less read gained =
        let layouts : All (HasLayout l) first = λ i d lt. (start i d lt).layout_is in
        let fresh : All (λ (a : Lane). IsFresh a.cursor) first = λ i d lt. (start i d lt).cursor in
        let count : ℕ × Part → ℕ = due_count text l file whole_lines in (
          whole_text,
          (
            gained_both old mid.written new (filled_text None done_lines) rest going.gained gained,
            omega (
              arith,
              fresh_all l len some first layouts fresh,
              lanes_due l len some count load.now all_due,
              ap (λ (ps : List (ℕ × Part)). l.page * sum_by count ps) now_parts,
              ap (λ (ps : List (ℕ × Part)). sum_by (λ part. size_from l len part.1 0) ps) now_parts,
              less,
              read,
              load.less,
              load.reads,
            ),
          ),
        )

-- over a file that may tell its bytes
pub due_told : (text : ℕ → ItemData → LineText) (l : Layout) (told now_told : Option (List ℕ)) (len now_len : ℕ) (first : List Lane) (old : Option (List ℕ)) (mid now : RoundState) (before reads after : ℕ)
    (end : Result End IoFault) → now_told ≡ told → now_len ≡ len → IfSome told (λ file. length file ≡ len) → 0 < l.page → All (IsAtStart l) first → All (IsBetween text l) mid.lanes → parts_of mid.lanes ≡ parts_of first
    → IfSome told (λ file. IsFurther text file (first_state first old) mid)
    → HasLoaded now_told now_len mid.lanes reads after → IfSome now_told (λ file. All (Stands file) mid.lanes → IsEnding text l file mid now.written end)
    → all_unread len mid.lanes ≤ all_unread len first → reads ≤ raised before (all_unread len first - all_unread len mid.lanes)
    → IfSome told (λ file. ReadsDue text l file (parts_of first) old now.written before after)
due_told text l None now_told len now_len first old mid now before reads after end same same_len size some start all parts going load turned less read = tt
due_told text l (Some file) now_told len now_len first old mid now before reads after end same same_len size some start all parts going load turned less read =
    let ending : All (Stands file) mid.lanes → IsEnding text l file mid now.written end = subst (λ (o : Option (List ℕ)). IfSome o (λ file. All (Stands file) mid.lanes → IsEnding text l file mid now.written end)) same turned in
    let gained : (rest : List ℕ) × Gained mid.written now.written rest = ending_gained text l file mid now.written end (ending going.stands) in
    let here : HasLoaded (Some file) len mid.lanes reads after =
    subst (λ (n : ℕ). HasLoaded (Some file) n mid.lanes reads after) same_len (subst (λ (o : Option (List ℕ)). HasLoaded o now_len mid.lanes reads after) same load) in
    reads_due text l file len size some first old mid now.written before reads after start going all parts here gained.0 less read gained.1
