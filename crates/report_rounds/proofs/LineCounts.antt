-- How many lines a lane has to come, and how many of them a round prints.
use Rattle.std.proofs.Common.{◌≡◌, ℕ, zero, suc, ◌+◌, ◌<◌, max, Bool, true, false, leb, cond, List, [], ◌∷◌, ◌++◌, length, map, get_or, refl, ap, ◌∙◌, arith, inl, inr}
use Rattle.std.specs.Prelude.{if◌then◌else◌, ◌==◌, not, count_by, unwrap_or}
use Rattle.std.specs.List.{flat_map}
use Rattle.std.specs.List.{All}
use Rattle.std.proofs.lemmas.List.Elements.{All-head, All-tail}
use Rattle.std.proofs.lemmas.Bool.{cases_Bool, eq-eqb, ne_eqb}
use Rattle.std.proofs.lemmas.List.{length-append, length-map}
use Rattle.std.proofs.lemmas.List.Concat.{flat_map-cons}
use Rattle.std.proofs.lemmas.List.Sums.{sum_by-append, sum_by-cons}
use Rattle.trace_base.specs.declared.layout.Layout.{Layout}
use Rattle.subpage.specs.ItemData.{ItemData, item_time}
use Rattle.subpage.specs.Arrangement.{Keyed, keyed_from, put, by_key, CpusRise}
use Rattle.line_holes.specs.Holes.{LineText}
use Rattle.page_pool.specs.Lines.{Line}
use Rattle.page_pool.specs.declared.lane.Lane.{Lane}
use Rattle.event_cursor.specs.Standing.{left_of}
use Rattle.time_merge.specs.declared.horizons.Horizon.{Horizon}
use Rattle.time_merge.specs.LaneRows.{parts_of, row_of}
use Rattle.time_merge.specs.Rows.{Row}
use Rattle.time_merge.specs.Horizons.{is_due}
use Rattle.time_merge.proofs.LaneLaws.{after_above}
use Rattle.round_print.specs.Prints.{CpuLine, due_lines, due_of, key_in, later_lines, printed, with_cpu}
use Rattle.round_print.specs.Rounds.{IsPrinted}
use Rattle.round_print.proofs.Printing.{rise_after}
use Rattle.report_rounds.specs.Due.{has_line, is_of}
use Rattle.report_rounds.specs.Lines.{item_line, shown_lines, waiting_row}
use Rattle.report_rounds.proofs.RoundsPrinted.{same_kept_row}

abbrev pub one_if : Bool → ℕ
one_if b = cond b 1 0

pub count_cons : {X : Type 0} (p : X → Bool) (x : X) (xs : List X) → count_by p (x ∷ xs) ≡ one_if (p x) + count_by p xs
count_cons {X} p x xs = sum_by-cons (λ (y : X). cond (p y) 1 0) x xs

pub count_on : {X : Type 0} (p : X → Bool) (xs ys : List X) → count_by p (xs ++ ys) ≡ count_by p xs + count_by p ys
count_on {X} p xs ys = sum_by-append (λ (y : X). cond (p y) 1 0) xs ys

module _ (text : ℕ → ItemData → LineText) where
  -- an item has a line or none
  shown_count : (cpu high : ℕ) (xs : List ItemData) → length (shown_lines text (keyed_from cpu high xs)) ≡ count_by (has_line text cpu) xs
  shown_count cpu high [] = refl
  shown_count cpu high (x ∷ xs) =
      let key : ℕ = max high (item_time x) in
      let first : Keyed = record { key = key; cpu = cpu; item = x } in
      let shown : List CpuLine = shown_lines text (keyed_from cpu key xs) in
      let rest : length shown ≡ count_by (has_line text cpu) xs = shown_count cpu key xs in
      let one : count_by (has_line text cpu) (x ∷ xs) ≡ one_if (has_line text cpu x) + count_by (has_line text cpu) xs = count_cons (has_line text cpu) x xs in
      elim (cases_Bool (length (text cpu x).bytes == 0)) as (λ _. length (shown_lines text (keyed_from cpu high (x ∷ xs))) ≡ count_by (has_line text cpu) (x ∷ xs)) [
        | inl none ↦
            let here : length (shown_lines text (keyed_from cpu high (x ∷ xs))) ≡ length shown = ap (λ (b : Bool). length (if b then shown else item_line text first ∷ shown)) none in
            let no : one_if (has_line text cpu x) ≡ 0 = ap (λ (b : Bool). one_if (not b)) none in
            omega (arith, here, rest, one, no)
        | inr some ↦
            let here : length (shown_lines text (keyed_from cpu high (x ∷ xs))) ≡ suc (length shown) = ap (λ (b : Bool). length (if b then shown else item_line text first ∷ shown)) some in
            let yes : one_if (has_line text cpu x) ≡ 1 = ap (λ (b : Bool). one_if (not b)) some in
            omega (arith, here, rest, one, yes)
      ]

  -- the lines that a lane has to come are those that it keeps and those of the items that it has left
  pub waiting_count : (l : Layout) (file : List ℕ) (a : Lane) → length (waiting_row text file a).items ≡ length a.region.kept + count_by (has_line text a.cpu) (left_of file a)
  waiting_count l file a =
      omega (
        arith,
        length-append (map (with_cpu a.cpu) a.region.kept) (shown_lines text (row_of file a).items),
        length-map a.region.kept (with_cpu a.cpu),
        shown_count a.cpu (unwrap_or a.cursor.high 0) (left_of file a),
      )

-- arranging lets no line go
put_count : (p : CpuLine → Bool) (x : CpuLine) (ys : List CpuLine) → count_by p (put key_in x ys) ≡ count_by p (x ∷ ys)
put_count p x [] = refl
put_count p x (y ∷ ys) =
    elim (cases_Bool (leb (key_in x) (key_in y))) as (λ _. count_by p (put key_in x (y ∷ ys)) ≡ count_by p (x ∷ y ∷ ys)) [
      | inl first ↦ ap (λ (b : Bool). count_by p (if b then x ∷ y ∷ ys else y ∷ put key_in x ys)) first
      | inr later ↦
          let here : count_by p (put key_in x (y ∷ ys)) ≡ count_by p (y ∷ put key_in x ys) = ap (λ (b : Bool). count_by p (if b then x ∷ y ∷ ys else y ∷ put key_in x ys)) later in
          omega (arith, here, put_count p x ys, count_cons p y (put key_in x ys), count_cons p x ys, count_cons p x (y ∷ ys), count_cons p y ys)
    ]

by_key_count : (p : CpuLine → Bool) (xs : List CpuLine) → count_by p (by_key key_in xs) ≡ count_by p xs
by_key_count p [] = refl
by_key_count p (x ∷ xs) = omega (arith, put_count p x (by_key key_in xs), by_key_count p xs, count_cons p x (by_key key_in xs), count_cons p x xs)

module _ (h : Horizon) (cpu : ℕ) where
  -- those that are due, and the others
  due_or_later : (lines : List Line) → length lines ≡ length (due_lines h cpu lines) + length (later_lines h cpu lines)
  due_or_later [] = refl
  due_or_later (line ∷ lines) = elim (cases_Bool (is_due h line.key cpu)) as (λ _. length (line ∷ lines) ≡ length (due_lines h cpu (line ∷ lines)) + length (later_lines h cpu (line ∷ lines))) [
    | inl due ↦ rw due (omega (arith, due_or_later lines))
    | inr later ↦ rw later (omega arith)
  ]

  -- all of them are of that processor
  due_count : (c : ℕ) (own : Bool) → (cpu == c) ≡ own → (lines : List Line) → count_by (is_of c) (due_lines h cpu lines) ≡ (if own then length (due_lines h cpu lines) else 0)
  due_count c true same [] = refl
  due_count c false same [] = refl
  due_count c own same (line ∷ lines) =
      let due : List CpuLine = due_lines h cpu lines in
      let rest : count_by (is_of c) due ≡ (if own then length due else 0) = due_count c own same lines in
      let first : one_if (is_of c (with_cpu cpu line)) ≡ one_if own = ap one_if same in
      let one : count_by (is_of c) (with_cpu cpu line ∷ due) ≡ one_if (is_of c (with_cpu cpu line)) + count_by (is_of c) due = count_cons (is_of c) (with_cpu cpu line) due in
      elim (cases_Bool (is_due h line.key cpu)) as (λ _. count_by (is_of c) (due_lines h cpu (line ∷ lines)) ≡ (if own then length (due_lines h cpu (line ∷ lines)) else 0)) [
        | inl here ↦
            let counted : count_by (is_of c) (due_lines h cpu (line ∷ lines)) ≡ count_by (is_of c) (with_cpu cpu line ∷ due) = ap (λ (b : Bool). count_by (is_of c) (if b then with_cpu cpu line ∷ due else [])) here in
            let long : length (due_lines h cpu (line ∷ lines)) ≡ suc (length due) = ap (λ (b : Bool). length (if b then with_cpu cpu line ∷ due else [])) here in
            more own rest first one counted long
        | inr not_due ↦
            let none : due_lines h cpu (line ∷ lines) ≡ [] = ap (λ (b : Bool). if b then with_cpu cpu line ∷ due else []) not_due in
            nothing own (ap (count_by (is_of c)) none) (ap (λ (ls : List CpuLine). length ls) none)
      ]
    where
      more : {a b d n m k : ℕ} (own : Bool) → b ≡ (if own then n else 0) → d ≡ one_if own → k ≡ d + b → a ≡ k → m ≡ suc n → a ≡ (if own then m else 0)
      more true rest first one counted long = omega (arith, rest, first, one, counted, long)
      more false rest first one counted long = omega (arith, rest, first, one, counted)

      nothing : {a n : ℕ} (own : Bool) → a ≡ 0 → n ≡ 0 → a ≡ (if own then n else 0)
      nothing true counted long = omega (arith, counted, long)
      nothing false counted long = counted

-- of the lines that lanes print those of one processor are those of its lane
module _ (h : Horizon) where
  others_count : (c : ℕ) (lanes : List Lane) → All (λ a. c < a.cpu) lanes → count_by (is_of c) (flat_map (due_of h) lanes) ≡ 0
  others_count c [] above = refl
  others_count c (a ∷ lanes) above =
      omega (
        arith,
        ap (count_by (is_of c)) (flat_map-cons (due_of h) a lanes),
        count_on (is_of c) (due_of h a) (flat_map (due_of h) lanes),
        due_count h a.cpu c false (ne_eqb a.cpu c (λ e. omega (arith, e, All-head (λ b. c < b.cpu) a lanes above))) a.region.kept,
        others_count c lanes (All-tail (λ b. c < b.cpu) a lanes above),
      )

  own_count : (lanes : List Lane) (i : ℕ) (d : Lane) → i < length lanes → CpusRise (parts_of lanes)
      → count_by (is_of (get_or lanes i d).cpu) (flat_map (due_of h) lanes) ≡ length (due_of h (get_or lanes i d))
  own_count [] i d lt rise = absurd (omega (arith, lt))
  own_count (a ∷ lanes) zero d lt rise =
      omega (
        arith,
        ap (count_by (is_of a.cpu)) (flat_map-cons (due_of h) a lanes),
        count_on (is_of a.cpu) (due_of h a) (flat_map (due_of h) lanes),
        due_count h a.cpu a.cpu true (eq-eqb a.cpu a.cpu refl) a.region.kept,
        others_count a.cpu lanes (after_above a lanes rise),
      )
  own_count (a ∷ lanes) (suc i) d lt rise =
      let b : Lane = get_or lanes i d in
      let inside : i < length lanes = omega (arith, lt) in
      let above : a.cpu < b.cpu = after_above a lanes rise i d inside in
      omega (
        arith,
        ap (count_by (is_of b.cpu)) (flat_map-cons (due_of h) a lanes),
        count_on (is_of b.cpu) (due_of h a) (flat_map (due_of h) lanes),
        due_count h a.cpu b.cpu false (ne_eqb a.cpu b.cpu (λ e. omega (arith, e, above))) a.region.kept,
        own_count lanes i d inside (rise_after (a ∷ []) lanes rise),
      )

  pub printed_count : (lanes : List Lane) (i : ℕ) (d : Lane) → i < length lanes → CpusRise (parts_of lanes)
      → count_by (is_of (get_or lanes i d).cpu) (printed h lanes) ≡ length (due_of h (get_or lanes i d))
  unfolding printed
  printed_count lanes i d lt rise = by_key_count (is_of (get_or lanes i d).cpu) (flat_map (due_of h) lanes) ∙ own_count lanes i d lt rise

  -- a lane whose lines up to the horizon are printed has the others to come
  pub printed_waiting : (text : ℕ → ItemData → LineText) (l : Layout) (file : List ℕ) (a b : Lane) → IsPrinted h a b
      → length (waiting_row text file a).items ≡ length (due_of h a) + length (waiting_row text file b).items
  printed_waiting text l file a b p =
      omega (
        arith,
        length-append (map (with_cpu a.cpu) a.region.kept) (shown_lines text (row_of file a).items),
        length-append (map (with_cpu b.cpu) b.region.kept) (shown_lines text (row_of file b).items),
        length-map a.region.kept (with_cpu a.cpu),
        length-map b.region.kept (with_cpu b.cpu),
        ap (λ (lines : List Line). length lines) p.kept,
        due_or_later h a.cpu a.region.kept,
        ap (λ (r : Row Keyed). length (shown_lines text r.items)) (same_kept_row l file a b p.keeps),
      )
