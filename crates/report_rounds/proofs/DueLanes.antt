-- What a lane has asked for is due.
use Rattle.std.proofs.Common.{◌≡◌, ℕ, zero, suc, ◌+◌, ◌-◌, ◌*◌, ◌<◌, ◌≤◌, Bool, true, cond, List, [], ◌∷◌, length, sum_by, Option, Some, None, refl, ap, ◌∙◌, arith, inl, inr}
use Rattle.std.specs.Prelude.{count_by, filter, nat_le}
use Rattle.std.specs.List.{range_with_len}
use Rattle.std.specs.Option.{IfSome}
use Rattle.std.specs.List.{All}
use Rattle.std.proofs.lemmas.List.Elements.{All-head, All-tail}
use Rattle.std.proofs.lemmas.Bool.{and_from, and_parts, cases_Bool, cases_lt, cond-true, le-leb}
use Rattle.std.proofs.lemmas.List.{length-drop}
use Rattle.std.proofs.lemmas.List.Sums.{length-filter, sum_by-cons}
use Rattle.trace_base.proofs.Layouts.{carried}
use Rattle.trace_base.specs.declared.layout.Layout.{Layout}
use Rattle.trace_base.specs.declared.part.Part.{Part}
use Rattle.subpage.specs.ItemData.{ItemData}
use Rattle.subpage.specs.Processor.{bad_of, is_there, list_of, page_count}
use Rattle.line_holes.specs.Holes.{LineText}
use Rattle.page_pool.specs.Fresh.{IsFresh}
use Rattle.page_pool.specs.Limits.{most_lines}
use Rattle.page_pool.specs.declared.cursor.LaneState.{LaneState}
use Rattle.page_pool.specs.declared.cursor.LaneState.TheVariants.{Fresh, Held, Ended, Malformed}
use Rattle.page_pool.specs.declared.lane.Lane.{Lane}
use Rattle.event_cursor.specs.Standing.{Stands, left_of}
use Rattle.event_cursor.specs.Unread.{first_unread, is_there_in, reading, reading_in, size_from, size_there, unread}
use Rattle.event_cursor.proofs.UnreadLaws.{size_step}
use Rattle.event_cursor.proofs.UsedItems.{held_counts}
use Rattle.time_merge.specs.LaneRows.{HasLayout, parts_of}
use Rattle.time_merge.specs.Reads.{all_reading, all_unread}
use Rattle.round_print.specs.Prints.{CpuLine}
use Rattle.report_rounds.specs.Due.{due_count, has_line, is_page_due, is_of, items_before, none_before, unwritten_before}
use Rattle.report_rounds.proofs.Before.{asked_in, before_left, sound_to}
use Rattle.report_rounds.proofs.LineCounts.{count_cons, one_if}
use Rattle.time_merge.proofs.PartReads.{size_inside, size_none, there_inside}

module _ (text : ℕ → ItemData → LineText) (file : List ℕ) (written : List CpuLine) (a : Lane) where
  -- all lines of a lane's used items are kept or among these pieces
  abbrev pub HasWritten : Type 0
  HasWritten = count_by (has_line text a.cpu) (list_of a.layout file a.part)
      ≤ count_by (is_of a.cpu) written + (length a.region.kept + count_by (has_line text a.cpu) (left_of file a))

  sound_before : (bad : Option ℕ) (next k : ℕ) → IfSome bad (λ at. next ≤ at) → k ≤ next → none_before bad k ≡ true
  sound_before None next k sound le = refl
  sound_before (Some at) next k sound le = le-leb k at (omega (arith, sound, le))

  no_later : (s : LaneState) (next k : ℕ) → k < asked_in s next → k ≤ next
  no_later Fresh next k lt = omega (arith, lt)
  no_later Held next k lt = omega (arith, lt)
  no_later Ended next k lt = omega (arith, lt)
  no_later Malformed next k lt = omega (arith, lt)

  module _ (s : Stands file a) (few : length a.region.kept ≤ most_lines) (has : HasWritten) where
    few_unwritten : (k : ℕ) → k < page_count a.layout a.part → k < asked_in a.cursor.state a.cursor.next → length (unwritten_before text a.layout file written (a.cpu, a.part) k) ≤ most_lines
    few_unwritten k inside lt =
        let p : ItemData → Bool = has_line text a.cpu in
        let done : ℕ = count_by (is_of a.cpu) written in
        omega (
          arith,
          length-drop done (filter p (items_before a.layout file a.part k)),
          length-filter p (items_before a.layout file a.part k),
          before_left file p a s k inside lt,
          few,
          has,
        )

    pub asked_due : (k : ℕ) → k < asked_in a.cursor.state a.cursor.next → is_there a.layout file a.part k ≡ true → is_page_due text a.layout file written (a.cpu, a.part) k ≡ true
    asked_due k lt there =
        let inside : k < page_count a.layout a.part = held_counts a.part.size a.layout.page k (omega (arith, (carried a.layout).page_least)) (there_inside a.layout (length file) a.part k there) in
        let sound : none_before (bad_of a.layout file a.part) k ≡ true = sound_before (bad_of a.layout file a.part) a.cursor.next k (sound_to file a s) (no_later a.cursor.state a.cursor.next k lt) in
        let small : nat_le (length (unwritten_before text a.layout file written (a.cpu, a.part) k)) most_lines ≡ true = le-leb _ _ (few_unwritten k inside lt) in
        and_from _ _ (and_from (is_there a.layout file a.part k) (none_before (bad_of a.layout file a.part) k) there sound) small

-- the bytes of a part's sub-buffers before one that was not asked for
module _ (l : Layout) (len : ℕ) (some : 0 < l.page) where
  there_or_none : (part : Part) (k : ℕ) → page_count l part ≤ k → size_there l len part k ≡ 0
  there_or_none part k past = elim (cases_Bool (is_there_in l len part k)) as (λ _. size_there l len part k ≡ 0) [
    | inl there ↦ absurd (omega (arith, past, held_counts part.size l.page k some (there_inside l len part k there)))
    | inr none ↦ rw none refl
  ]

  there_step : (part : Part) (k : ℕ) → size_there l len part k + size_from l len part (k + 1) ≤ size_from l len part k
  there_step part k = elim (cases_lt k (page_count l part)) as (λ _. size_there l len part k + size_from l len part (k + 1) ≤ size_from l len part k) [
    | inl lt ↦ omega (arith, size_step l len part k lt)
    | inr past ↦ omega (arith, there_or_none part k past, size_none l len part (k + 1) (omega (arith, past)))
  ]

  size_less : (part : Part) (from d : ℕ) → size_from l len part (from + d) ≤ size_from l len part from
  size_less part from zero = let same : from + 0 ≡ from = omega arith in omega (arith, ap (size_from l len part) same)
  size_less part from (suc d) =
      let same : from + suc d ≡ from + d + 1 = omega arith in
      omega (arith, ap (size_from l len part) same, there_step part (from + d), size_less part from d)

  module _ (part : Part) (due : ℕ → Bool) (asked : ℕ) (each : (k : ℕ) → k < asked → is_there_in l len part k ≡ true → due k ≡ true) where
    one_due : (k : ℕ) → k < asked → size_there l len part k ≤ l.page * one_if (due k)
    one_due k lt = elim (cases_Bool (is_there_in l len part k)) as (λ _. size_there l len part k ≤ l.page * one_if (due k)) [
      | inl there ↦
          let one : one_if (due k) ≡ 1 = ap one_if (each k lt there) in
          let page : l.page * one_if (due k) ≡ l.page * 1 = ap (λ (n : ℕ). l.page * n) one in
          let size : size_there l len part k ≡ l.page = cond-true _ _ _ there in
          omega (arith, page, size)
      | inr none ↦ let size : size_there l len part k ≡ 0 = ap (λ (b : Bool). cond b l.page 0) none in omega (arith, size)
    ]

    due_size : (n k : ℕ) → page_count l part - k ≡ n → size_from l len part k ≤ l.page * count_by due (range_with_len k n) + size_from l len part asked
    due_size zero k e = omega (arith, size_none l len part k (omega (arith, e)))
    due_size (suc n) k e =
        let rest : size_from l len part (k + 1) ≤ l.page * count_by due (range_with_len (k + 1) n) + size_from l len part asked = due_size n (k + 1) (omega (arith, e)) in
        let count : l.page * count_by due (range_with_len k (suc n)) ≡ l.page * (one_if (due k) + count_by due (range_with_len (k + 1) n)) = ap (λ (m : ℕ). l.page * m) (count_cons due k (range_with_len (k + 1) n)) in
        elim (cases_lt k asked) as (λ _. size_from l len part k ≤ l.page * count_by due (range_with_len k (suc n)) + size_from l len part asked) [
          | inl lt ↦ omega (arith, rest, count, one_due k lt, size_step l len part k (omega (arith, e)))
          | inr past ↦
              let same : asked + (k - asked) ≡ k = omega (arith, past) in
              omega (arith, ap (size_from l len part) same, size_less part asked (k - asked))
        ]

    pub all_due : size_from l len part 0 ≤ l.page * count_by due (range_with_len 0 (page_count l part)) + size_from l len part asked
    all_due = due_size (page_count l part) 0 (omega arith)

  -- each due sub-buffer is there
  due_there : (part : Part) (due : ℕ → Bool) → ((k : ℕ) → due k ≡ true → is_there_in l len part k ≡ true) → (n k : ℕ) → page_count l part - k ≡ n
      → l.page * count_by due (range_with_len k n) ≤ size_from l len part k
  due_there part due each zero k e = omega arith
  due_there part due each (suc n) k e =
      let count : l.page * count_by due (range_with_len k (suc n)) ≡ l.page * (one_if (due k) + count_by due (range_with_len (k + 1) n)) = ap (λ (m : ℕ). l.page * m) (count_cons due k (range_with_len (k + 1) n)) in
      omega (arith, count, one, due_there part due each n (k + 1) (omega (arith, e)), size_step l len part k (omega (arith, e)))
    where
      one : l.page * one_if (due k) ≤ size_there l len part k
      one = elim (cases_Bool (due k)) as (λ _. l.page * one_if (due k) ≤ size_there l len part k) [
        | inl yes_due ↦
            let page : l.page * one_if (due k) ≡ l.page * 1 = ap (λ (b : Bool). l.page * one_if b) yes_due in
            let size : size_there l len part k ≡ l.page = cond-true _ _ _ (each k yes_due) in
            omega (arith, page, size)
        | inr not_due ↦ let none : l.page * one_if (due k) ≡ l.page * 0 = ap (λ (b : Bool). l.page * one_if b) not_due in omega (arith, none)
      ]

  pub part_due : (part : Part) (due : ℕ → Bool) → ((k : ℕ) → due k ≡ true → is_there_in l len part k ≡ true) → l.page * count_by due (range_with_len 0 (page_count l part)) ≤ part.size
  part_due part due each = omega (arith, due_there part due each (page_count l part) 0 (omega arith), size_inside l len (page_count l part) part 0 (omega arith))

  -- what a lane has not read, without what it may be reading, is what it did not ask for
  asked_unread : (s : LaneState) (part : Part) (next : ℕ) → size_from l len part (asked_in s next) + reading_in s (size_there l len part next) ≤ size_from l len part (first_unread s next)
  asked_unread Fresh part next = omega (arith, there_step part next)
  asked_unread Held part next = omega arith
  asked_unread Ended part next = omega arith
  asked_unread Malformed part next = omega arith

  -- a lane that asked for due sub-buffers only
  abbrev pub AsksDue : (ℕ × Part → ℕ) → Lane → Type 0
  AsksDue count a = size_from l len a.part 0 + reading len a ≤ l.page * count (a.cpu, a.part) + unread len a

  pub lanes_due : (count : ℕ × Part → ℕ) (lanes : List Lane) → All (AsksDue count) lanes
      → sum_by (λ part. size_from l len part.1 0) (parts_of lanes) + all_reading len lanes ≤ l.page * sum_by count (parts_of lanes) + all_unread len lanes
  lanes_due count [] all = omega arith
  lanes_due count (a ∷ lanes) all =
      let part : ℕ × Part = (a.cpu, a.part) in
      let due : l.page * sum_by count (part ∷ parts_of lanes) ≡ l.page * (count part + sum_by count (parts_of lanes)) = ap (λ (n : ℕ). l.page * n) (sum_by-cons count part (parts_of lanes)) in
      omega (
        arith,
        due,
        All-head (AsksDue count) a lanes all,
        lanes_due count lanes (All-tail (AsksDue count) a lanes all),
        sum_by-cons (λ (q : ℕ × Part). size_from l len q.1 0) part (parts_of lanes),
        sum_by-cons (reading len) a lanes,
        sum_by-cons (unread len) a lanes,
      )

  fresh_unread : (a : Lane) → HasLayout l a → IsFresh a.cursor → unread len a ≡ size_from l len a.part 0
  fresh_unread a layout f =
      ap (λ (s : LaneState). size_from a.layout len a.part (first_unread s a.cursor.next)) f.state ∙ ap (size_from a.layout len a.part) f.next
      ∙ ap (λ (k : Layout). size_from k len a.part 0) layout

  pub fresh_all : (lanes : List Lane) → All (HasLayout l) lanes → All (λ a. IsFresh a.cursor) lanes → all_unread len lanes ≡ sum_by (λ part. size_from l len part.1 0) (parts_of lanes)
  fresh_all [] layouts fresh = refl
  fresh_all (a ∷ lanes) layouts fresh =
      omega (
        arith,
        fresh_unread a (All-head (HasLayout l) a lanes layouts) (All-head (λ b. IsFresh b.cursor) a lanes fresh),
        fresh_all lanes (All-tail (HasLayout l) a lanes layouts) (All-tail (λ b. IsFresh b.cursor) a lanes fresh),
        sum_by-cons (unread len) a lanes,
        sum_by-cons (λ (q : ℕ × Part). size_from l len q.1 0) (a.cpu, a.part) (parts_of lanes),
      )

-- a lane that asked for due sub-buffers only
pub asks_due : (len : ℕ) (a : Lane) (some : 0 < a.layout.page) (due : ℕ → Bool) → ((k : ℕ) → k < asked_in a.cursor.state a.cursor.next → is_there_in a.layout len a.part k ≡ true → due k ≡ true)
    → size_from a.layout len a.part 0 + reading len a ≤ a.layout.page * count_by due (range_with_len 0 (page_count a.layout a.part)) + unread len a
asks_due len a some due each =
    omega (arith, all_due a.layout len some a.part due (asked_in a.cursor.state a.cursor.next) each, asked_unread a.layout len some a.cursor.state a.part a.cursor.next)

-- of each processor no more is due than its part has
pub parts_due : (text : ℕ → ItemData → LineText) (l : Layout) (file : List ℕ) (written : List CpuLine) (parts : List (ℕ × Part)) → 0 < l.page
    → l.page * sum_by (due_count text l file written) parts ≤ sum_by (λ part. part.1.size) parts
parts_due text l file written [] some = omega arith
parts_due text l file written (part ∷ parts) some =
    let all : l.page * sum_by (due_count text l file written) (part ∷ parts) ≡ l.page * (due_count text l file written part + sum_by (due_count text l file written) parts) =
    ap (λ (n : ℕ). l.page * n) (sum_by-cons (due_count text l file written) part parts) in
    let there : (k : ℕ) → is_page_due text l file written part k ≡ true → is_there_in l (length file) part.1 k ≡ true = λ k due. (and_parts _ _ (and_parts _ _ due).0).0 in
    omega (
      arith,
      all,
      part_due l (length file) some part.1 (is_page_due text l file written part) there,
      parts_due text l file written parts some,
      sum_by-cons (λ (q : ℕ × Part). q.1.size) part parts,
    )
