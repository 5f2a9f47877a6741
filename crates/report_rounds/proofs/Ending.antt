-- The end at a malformed sub-buffer: where its lane is that of the horizon, nothing is to come, and its cut is the least.
use Rattle.std.proofs.Common.{◌≡◌, ℕ, ◌+◌, ◌<◌, ◌≤◌, true, false, List, [], ◌∷◌, ◌++◌, get_or, map, Option, Some, None, refl, sym, ap, subst, ◌∙◌, arith, inl, inr}
use Rattle.std.specs.Prelude.{unwrap_or}
use Rattle.std.specs.Option.{IfSome}
use Rattle.std.specs.List.{All, filter_map, fold, cons_option}
use Rattle.std.proofs.lemmas.Bool.{cases_Bool, cases_lt, cases_eq, lt-ltb, le-ltb, le-leb, eq-eqb}
use Rattle.std.proofs.lemmas.List.Elements.{All-append, All-head, All-map, All-nil, All-tail, All-weaker}
use Rattle.trace_base.specs.declared.layout.Layout.{Layout}
use Rattle.subpage.specs.ItemData.{ItemData}
use Rattle.subpage.specs.Arrangement.{Keyed, key_of, cpu_of, CpusRise, IsRising}
use Rattle.subpage.specs.Cut.{Cut, earlier, cut_of}
use Rattle.line_holes.specs.Holes.{LineText}
use Rattle.page_pool.specs.Lines.{Line}
use Rattle.page_pool.specs.declared.lane.Lane.{Lane}
use Rattle.page_pool.specs.declared.cursor.LaneState.{LaneState}
use Rattle.page_pool.specs.declared.cursor.LaneState.TheVariants.{Fresh, Held, Ended, Malformed}
use Rattle.event_cursor.specs.Standing.{Stands}
use Rattle.tournament_tree.specs.Least.{from_time}
use Rattle.tournament_tree.proofs.Ranks.{from_rank, never_empty, rank_from, same_time}
use Rattle.time_merge.specs.declared.horizons.Horizon.{Horizon}
use Rattle.time_merge.specs.declared.horizons.Horizon.TheVariants as code
use Rattle.time_merge.specs.Rows.{Row, IsRow, NotBefore, rank, bound, bound_of, up_to_key, Rise, cpus, coming, least_cut}
use Rattle.time_merge.specs.Rounds.{Waiting, row_in, rows_in}
use Rattle.time_merge.specs.Horizons.{high_in, high_of}
use Rattle.time_merge.specs.LaneRows.{HasLayout, row_of, rows_of, parts_of}
use Rattle.time_merge.proofs.Choosing.{all_of_map}
use Rattle.time_merge.proofs.Known.{from_high}
use Rattle.time_merge.proofs.LaneLaws.{is_row, cut_is}
use Rattle.time_merge.proofs.RowLaws.{From, next_cut}
use Rattle.time_merge.proofs.Starting.{cut_of_rows}
use Rattle.cpu_workers.specs.Formats.{IsSorted}
use Rattle.time_merge.specs.Horizons.{is_due}
use Rattle.round_print.specs.Prints.{CpuLine, key_in, cpu_in, with_cpu, later_lines, later_of, line_key}
use Rattle.report_rounds.specs.Lines.{shown_lines}
use Rattle.report_rounds.proofs.Shown.{all_shown, shown_rises}
use Rattle.report_rounds.proofs.RoundsPrinted.{after, left_after, own_lines, rising_lines, start_later}
use Rattle.report_rounds.proofs.Horizons.{IsAround, ended_row, parts_all}

-- a line that is not due stands after the horizon
behind_horizon : (k c key cpu : ℕ) → up_to_key (Some k) c key cpu ≡ false → (k ≤ key) × (cpu ≤ c → k < key)
behind_horizon k c key cpu e = elim (cases_lt key k) as (λ _. (k ≤ key) × (cpu ≤ c → k < key)) [
  | inl lt ↦ absurd (never (rw (lt-ltb key k lt) at e))
  | inr le ↦ (
    le,
    λ below. elim (cases_eq key k) as (λ _. k < key) [
      | inl same ↦ absurd (never (rw (le-ltb key k le, eq-eqb key k same, le-leb cpu c below) at e))
      | inr other ↦ grind (arith, le, other)
    ],
  )
]
  where
    never : true ≡ false → ⊥
    never e = cc

-- a line of the horizon's processor that is no later than it is due
due_here : (k c key : ℕ) → key ≤ k → up_to_key (Some k) c key c ≡ true
due_here k c key le = elim (cases_Bool (up_to_key (Some k) c key c)) as (λ _. up_to_key (Some k) c key c ≡ true) [
  | inl due ↦ due
  | inr later ↦ let far : k < key = (behind_horizon k c key c later).1 (omega arith) in absurd (omega arith)
]

low : (high : Option ℕ) (key : ℕ) → rank high ≤ key + 1 → unwrap_or high 0 ≤ key
low None key le = omega arith
low (Some h) key le = omega arith

module _ (l : Layout) (file : List ℕ) where
  -- nothing of a lane comes before its greatest time so far
  row_not_before : (n : ℕ) (a : Lane) (s : LaneState) → a.cursor.state ≡ s → Stands file a → NotBefore n (high_in s a.cursor.high) → From key_of cpu_of n (row_of file a)
  row_not_before n a Fresh e s nb = from_high file a n s (rank_from n a.cursor.high nb)
  row_not_before n a Held e s nb = from_high file a n s (rank_from n a.cursor.high nb)
  row_not_before n a Ended e s nb =
      let none : ((row_of file a).items ≡ []) × ((row_of file a).cut ≡ None) = ended_row l file a s e in
      record {
        items = subst (All (λ x. n ≤ key_of x + 1)) (sym none.0) (All-nil (λ x. n ≤ key_of x + 1));
        cut = subst (λ (o : Option Cut). IfSome o (λ c. n ≤ rank c.key)) (sym none.1) tt;
      }
  row_not_before n a Malformed e s nb = from_high file a n s (rank_from n a.cursor.high nb)

-- lines that go on
rising_append : (m : ℕ) (xs ys : List CpuLine) → IsRising key_in xs → IsRising key_in ys → All (λ x. key_in x ≤ m) xs → All (λ y. m ≤ key_in y) ys → IsRising key_in (xs ++ ys)
rising_append m [] ys r s up from = s
rising_append m (x ∷ []) [] r s up from = tt
rising_append m (x ∷ []) (y ∷ ys) r s up from = (omega (arith, All-head (λ z. key_in z ≤ m) x [] up, All-head (λ z. m ≤ key_in z) y ys from), s)
rising_append m (x ∷ z ∷ xs) ys r s up from = (r.0, rising_append m (z ∷ xs) ys r.1 s (All-tail (λ w. key_in w ≤ m) x (z ∷ xs) up) from)

all_lines : (P : ℕ → Type 0) (cpu : ℕ) (lines : List Line) → All (λ line. P line.key) lines → All (λ x. P (key_in x)) (map (with_cpu cpu) lines)
all_lines P cpu lines h = All-map (λ x. P (key_in x)) (with_cpu cpu) lines h

-- the lines that are not due
pub later_all : (P : Line → Type 0) (h : Horizon) (cpu : ℕ) (lines : List Line) → All P lines → All P (later_lines h cpu lines)
later_all P h cpu [] all = all
later_all P h cpu (line ∷ lines) all = elim (cases_Bool (is_due h line.key cpu)) as (λ _. All P (later_lines h cpu (line ∷ lines))) [
  | inl due ↦ rw due (later_all P h cpu lines (All-tail P line lines all))
  | inr later ↦ rw later all
]

pub later_rises : (h : Horizon) (cpu : ℕ) (lines : List Line) → IsRising line_key lines → IsRising line_key (later_lines h cpu lines)
later_rises h cpu [] r = tt
later_rises h cpu (line ∷ []) r = elim (cases_Bool (is_due h line.key cpu)) as (λ _. IsRising line_key (later_lines h cpu (line ∷ []))) [
  | inl due ↦ rw due tt
  | inr later ↦ rw later tt
]
later_rises h cpu (a ∷ b ∷ lines) r = elim (cases_Bool (is_due h a.key cpu)) as (λ _. IsRising line_key (later_lines h cpu (a ∷ b ∷ lines))) [
  | inl due ↦ rw due (later_rises h cpu (b ∷ lines) r.1)
  | inr later ↦ rw later r
]

kept_below : (high : Option ℕ) (n : ℕ) (lines : List Line) → All (λ line. line.key ≤ unwrap_or high 0) lines → (high ≡ None → lines ≡ []) → rank high ≤ n → All (λ line. line.key < n) lines
kept_below None n lines e none le = subst (All (λ (line : Line). line.key < n)) (sym (none refl)) (All-nil (λ (line : Line). line.key < n))
kept_below (Some h) n lines e none le = All-weaker (λ (line : Line). line.key ≤ h) (λ line. line.key < n) (λ line up. omega (arith, up, le)) lines e

abbrev FirstFrom : ℕ → List Line → Type 0
FirstFrom n [] = Unit {0}
FirstFrom n (line ∷ lines) = n ≤ line.key + 1

later_from : (h : Horizon) (n cpu : ℕ) → ((key : ℕ) → is_due h key cpu ≡ false → n ≤ key + 1) → (lines : List Line) → FirstFrom n (later_lines h cpu lines)
later_from h n cpu on [] = tt
later_from h n cpu on (line ∷ lines) = elim (cases_Bool (is_due h line.key cpu)) as (λ _. FirstFrom n (later_lines h cpu (line ∷ lines))) [
  | inl due ↦ rw due (later_from h n cpu on lines)
  | inr later ↦ rw later (on line.key later)
]

bound_from : (n cpu : ℕ) (lines : List Line) (more : List CpuLine) (cut : Option Cut) → FirstFrom n lines → All (λ x. n ≤ key_in x + 1) more → IfSome cut (λ c. n ≤ rank c.key)
    → NotBefore n (bound_of key_in cpu_in (map (with_cpu cpu) lines ++ more) cut)
bound_from n cpu (line ∷ lines) more cut first from up = first
bound_from n cpu [] (x ∷ more) cut first from up = All-head (λ y. n ≤ key_in y + 1) x more from
bound_from n cpu [] [] None first from up = tt
bound_from n cpu [] [] (Some cut) first from up = from_rank n cut.key up

-- What a horizon says of lines that are not due: those of earlier processors stand after its key, no other stands before
-- it, and its own lane keeps none.
pub record IsHorizonAt (h : Horizon) (high : Option ℕ) (cpu : ℕ) : Type 0 where
  pub sooner : (key other : ℕ) → other < cpu → is_due h key other ≡ false → rank high + 1 ≤ key + 1
  pub later : (key other : ℕ) → is_due h key other ≡ false → rank high ≤ key + 1
  pub none : (lane : Lane) → IsSorted lane → lane.cpu ≡ cpu → lane.cursor.high ≡ high → later_of h lane ≡ []

pub at_start : (c : ℕ) → IsHorizonAt (code.Start c) None c
at_start c = record {
  sooner = λ key other lt e. omega arith;
  later = λ key other e. omega arith;
  none = λ lane s own high. start_later c lane.cpu lane.region.kept ∙ s.started high;
}

pub at_key : (k c : ℕ) → IsHorizonAt (code.To k c) (Some k) c
at_key k c = record {
  sooner = λ key other lt e. let far : k < key = (behind_horizon k c key other e).1 (omega (arith, lt)) in omega (arith, far);
  later = λ key other e. let far : k ≤ key = (behind_horizon k c key other e).0 in omega (arith, far);
  none = λ lane s own high.
      let up_k : All (λ line. line.key ≤ k) lane.region.kept = subst (λ (o : Option ℕ). All (λ line. line.key ≤ unwrap_or o 0) lane.region.kept) high s.up_to in
      ap (λ (n : ℕ). later_lines (code.To k c) n lane.region.kept) own ∙ all_due lane.region.kept up_k;
}
  where
    all_due : (lines : List Line) → All (λ line. line.key ≤ k) lines → later_lines (code.To k c) c lines ≡ []
    all_due [] e = refl
    all_due (line ∷ lines) e = rw (due_here k c line.key (All-head (λ x. x.key ≤ k) line lines e)) (all_due lines (All-tail (λ x. x.key ≤ k) line lines e))

high_is : (a : Lane) (s : LaneState) (high : Option ℕ) → high_in s a.cursor.high ≡ from_time high → a.cursor.high ≡ high
high_is a Fresh high e = same_time a.cursor.high high e
high_is a Held high e = same_time a.cursor.high high e
high_is a Ended high e = absurd (never_empty high (sym e))
high_is a Malformed high e = same_time a.cursor.high high e

-- the lane of the horizon keeps no line after it
pub none_later : (h : Horizon) (high : Option ℕ) (cpu : ℕ) (lane : Lane) → IsHorizonAt h high cpu → IsSorted lane → lane.cpu ≡ cpu → high_of lane ≡ from_time high → later_of h lane ≡ []
none_later h high cpu lane at s own here = at.none lane s own (high_is lane lane.cursor.state high here)

abbrev cut_made : Option ℕ → ℕ → ℕ → Cut
cut_made key cpu page = record { key = key; cpu = cpu; page = page }

module _ (text : ℕ → ItemData → LineText) (l : Layout) (file : List ℕ) (h : Horizon) where
  abbrev pub rows_after : List Lane → List (Row CpuLine)
  rows_after lanes = rows_in (map (after text l file h) lanes)

  is_row_after : (a : Lane) → Stands file a → IsSorted a → IsRow key_in cpu_in (row_in (after text l file h a))
  is_row_after a s sorted =
      let high : Option ℕ = a.cursor.high in
      let row : Row Keyed = row_of file a in
      let is : IsRow key_of cpu_of row = is_row file a s in
      let from : From key_of cpu_of (rank high) row = from_high file a (rank high) s (omega arith) in
      let lines : List Line = later_of h a in
      let up : All (λ line. line.key ≤ unwrap_or high 0) lines = (later_all (λ line. line.key ≤ unwrap_or high 0) h a.cpu a.region.kept sorted.up_to) in
      let none : high ≡ None → lines ≡ [] = λ e. ap (later_lines h a.cpu) (sorted.started e) in
      let more : All (λ y. unwrap_or high 0 ≤ key_in y) (shown_lines text row.items) =
      all_shown text (λ x. rank high ≤ key_of x + 1) (λ y. unwrap_or high 0 ≤ key_in y) (λ x le. low high x.key le) row.items from.items in
      record {
        own = All-append (λ x. cpu_in x ≡ a.cpu) (map (with_cpu a.cpu) lines) (shown_lines text row.items) (own_lines a.cpu lines)
            (all_shown text (λ x. cpu_of x ≡ a.cpu) (λ x. cpu_in x ≡ a.cpu) (λ x e. e) row.items is.own);
        rising = rising_append (unwrap_or high 0) (map (with_cpu a.cpu) lines) (shown_lines text row.items) (rising_lines a.cpu lines (later_rises h a.cpu a.region.kept sorted.rises))
            (shown_rises text row.items is.rising) (all_lines (λ n. n ≤ unwrap_or high 0) a.cpu lines up) more;
        cut_own = is.cut_own;
        cut_last = of_cut row.cut from.cut is.cut_last lines up none;
      }
    where
      of_cut : (o : Option Cut) → IfSome o (λ cut. rank a.cursor.high ≤ rank cut.key) → IfSome o (λ cut. All (λ x. key_of x < rank cut.key) (row_of file a).items)
          → (lines : List Line) → All (λ line. line.key ≤ unwrap_or a.cursor.high 0) lines → (a.cursor.high ≡ None → lines ≡ [])
          → IfSome o (λ cut. All (λ x. key_in x < rank cut.key) (map (with_cpu a.cpu) lines ++ shown_lines text (row_of file a).items))
      of_cut None le last lines up none = tt
      of_cut (Some cut) le last lines up none =
          All-append (λ x. key_in x < rank cut.key) (map (with_cpu a.cpu) lines) (shown_lines text (row_of file a).items)
          (all_lines (λ n. n < rank cut.key) a.cpu lines (kept_below a.cursor.high (rank cut.key) lines up none le))
          (all_shown text (λ x. key_of x < rank cut.key) (λ x. key_in x < rank cut.key) (λ x e. e) (row_of file a).items last)

  all_after : (P : Row CpuLine → Type 0) (lanes : List Lane) → All (λ a. P (row_in (after text l file h a))) lanes → All P (rows_after lanes)
  all_after P lanes all = All-map P row_in (map (after text l file h) lanes) (All-map (λ w. P (row_in w)) (after text l file h) lanes all)

  rows_are : (lanes : List Lane) → All (Stands file) lanes → All IsSorted lanes → All (IsRow key_in cpu_in) (rows_after lanes)
  rows_are lanes s o = all_after (IsRow key_in cpu_in) lanes (λ i d lt. is_row_after (get_or lanes i d) (s i d lt) (o i d lt))

  after_not_before : (n : ℕ) (a : Lane) → Stands file a → NotBefore n (high_of a) → ((key : ℕ) → is_due h key a.cpu ≡ false → n ≤ key + 1)
      → NotBefore n (bound key_in cpu_in (row_in (after text l file h a)))
  after_not_before n a s nb on =
      let row : Row Keyed = row_of file a in
      let from : From key_of cpu_of n row = row_not_before l file n a a.cursor.state refl s nb in
      bound_from n a.cpu (later_of h a) (shown_lines text row.items) row.cut (later_from h n a.cpu on a.region.kept)
      (all_shown text (λ x. n ≤ key_of x + 1) (λ x. n ≤ key_in x + 1) (λ x e. e) row.items from.items) from.cut

  rows_around : (front : List Lane) (lane : Lane) (back : List Lane) → rows_after (front ++ lane ∷ back) ≡ rows_after front ++ row_in (after text l file h lane) ∷ rows_after back
  rows_around [] lane back = refl
  rows_around (a ∷ front) lane back = ap (λ (rs : List (Row CpuLine)). row_in (after text l file h a) ∷ rs) (rows_around front lane back)

  rise_after : (lanes : List Lane) → CpusRise (parts_of lanes) → Rise (cpus (rows_after lanes))
  rise_after [] r = tt
  rise_after (a ∷ []) r = tt
  rise_after (a ∷ b ∷ lanes) r = (r.0, rise_after (b ∷ lanes) r.1)

  module _ (high : Option ℕ) (cpu : ℕ) (at : IsHorizonAt h high cpu) where
    abbrev IsBoundFrom : ℕ → Row CpuLine → Type 0
    IsBoundFrom n r = NotBefore n (bound key_in cpu_in r)

    all_sooner : (lanes : List Lane) → All (Stands file) lanes → All (λ a. a.cpu < cpu) lanes → All (NotBefore (rank high + 1)) (map high_of lanes) → All (IsBoundFrom (rank high + 1)) (rows_after lanes)
    all_sooner lanes s below nb = all_after (IsBoundFrom (rank high + 1)) lanes (λ i d lt.
        let a : Lane = get_or lanes i d in
        after_not_before (rank high + 1) a (s i d lt) (all_of_map (NotBefore (rank high + 1)) high_of lanes nb i d lt) (λ key e. at.sooner key a.cpu (below i d lt) e))

    all_later : (lanes : List Lane) → All (Stands file) lanes → All (NotBefore (rank high)) (map high_of lanes) → All (IsBoundFrom (rank high)) (rows_after lanes)
    all_later lanes s nb = all_after (IsBoundFrom (rank high)) lanes (λ i d lt.
        let a : Lane = get_or lanes i d in
        after_not_before (rank high) a (s i d lt) (all_of_map (NotBefore (rank high)) high_of lanes nb i d lt) (λ key e. at.later key a.cpu e))

    -- the lane of the horizon stands before its malformed sub-buffer
    pub stopped : (lanes : List Lane) (i : ℕ) (front : List Lane) (lane : Lane) (back : List Lane) → IsAround lanes high cpu i front lane back → CpusRise (parts_of lanes)
        → All (Stands file) (front ++ lane ∷ back) → All IsSorted (front ++ lane ∷ back) → lane.cursor.state ≡ Malformed
        → (least_cut (rows_after lanes) ≡ Some (record { key = high; cpu = cpu; page = lane.cursor.next })) × (left_after text l file h lanes ≡ [])
    stopped lanes i front lane back there rise stands sorted malformed =
        let s : All (Stands file) front × (Stands file lane × All (Stands file) back) = parts_all (Stands file) front lane back stands in
        let o : All IsSorted front × (IsSorted lane × All IsSorted back) = parts_all IsSorted front lane back sorted in
        let own_high : lane.cursor.high ≡ high = high_is lane lane.cursor.state high there.here in
        let row : Row CpuLine = row_in (after text l file h lane) in
        let none = cut_is file lane s.1.0 malformed in
        let cut : Cut = record { key = lane.cursor.high; cpu = lane.cpu; page = lane.cursor.next } in
        let items : row.items ≡ [] =
        ap (λ (ls : List Line). map (with_cpu lane.cpu) ls ++ shown_lines text (row_of file lane).items) (at.none lane o.1.0 there.own own_high)
        ∙ ap (shown_lines text) none.0 in
        let split : rows_after lanes ≡ rows_after front ++ row ∷ rows_after back = ap rows_after there.split ∙ rows_around front lane back in
        let rises : Rise (cpus (rows_after front ++ row ∷ rows_after back)) = subst (λ (rs : List (Row CpuLine)). Rise (cpus rs)) split (rise_after lanes rise) in
        let all_rows : All (IsRow key_in cpu_in) (rows_after front ++ row ∷ rows_after back) = subst (All (IsRow key_in cpu_in)) (rows_around front lane back) (rows_are (front ++ lane ∷ back) stands sorted) in
        let sooner : All (λ r. NotBefore (rank lane.cursor.high + 1) (bound key_in cpu_in r)) (rows_after front) =
        subst (λ (q : Option ℕ). All (λ r. NotBefore (rank q + 1) (bound key_in cpu_in r)) (rows_after front)) (sym own_high) (all_sooner front s.0 there.below there.sooner) in
        let later : All (λ r. NotBefore (rank lane.cursor.high) (bound key_in cpu_in r)) (rows_after back) =
        subst (λ (q : Option ℕ). All (λ r. NotBefore (rank q) (bound key_in cpu_in r)) (rows_after back)) (sym own_high) (all_later back s.1.1 there.later) in
        let law = next_cut key_in cpu_in (rows_after front) row (rows_after back) cut items none.1 rises all_rows sooner later in
        let is_cut : Some cut ≡ Some (record { key = high; cpu = cpu; page = lane.cursor.next }) =
        ap (λ (q : Option ℕ). Some (cut_made q lane.cpu lane.cursor.next)) own_high ∙ ap (λ (c : ℕ). Some (cut_made high c lane.cursor.next)) there.own in
        (ap least_cut split ∙ law.0 ∙ is_cut, ap (coming key_in cpu_in) split ∙ law.1)

-- a row has its lane's cut, whatever lines wait
pub cut_of_waiting : (l : Layout) (file : List ℕ) (w : Lane → Waiting CpuLine) → ((a : Lane) → (w a).cut ≡ (row_of file a).cut) → (lanes : List Lane) → All (HasLayout l) lanes → least_cut (rows_in (map w lanes)) ≡ cut_of l file (parts_of lanes)
cut_of_waiting l file w same lanes layouts = ap (fold earlier None) (same_cuts lanes) ∙ cut_of_rows l file lanes layouts
  where
    same_cuts : (lanes : List Lane) → filter_map (λ (row : Row CpuLine). row.cut) (rows_in (map w lanes)) ≡ filter_map (λ (row : Row Keyed). row.cut) (rows_of file lanes)
    same_cuts [] = refl
    same_cuts (a ∷ lanes) =
        ap (λ (o : Option Cut). cons_option o (filter_map (λ (row : Row CpuLine). row.cut) (rows_in (map w lanes)))) (same a)
        ∙ ap (cons_option (row_of file a).cut) (same_cuts lanes)
