-- A round takes the front of what is to come: the items of all lanes up to a horizon, in one order.
use Rattle.std.proofs.Common.{◌≡◌, ℕ, zero, suc, ◌+◌, ◌<◌, ◌≤◌, max, true, false, eqb, leb, ltb, List, [], ◌∷◌, ◌++◌, length, map, get_or, sum_by, Option, Some, refl, sym, ap, subst, ◌∙◌, append-nil, inl, inr, arith}
use Rattle.std.specs.Option.{IfSome, unwrap_or}
use Rattle.std.specs.List.{All, flat_map}
use Rattle.std.proofs.lemmas.Bool.{cases_Bool, lt-ltb, eq-eqb, ne_eqb}
use Rattle.std.proofs.lemmas.List.{length-append}
use Rattle.std.proofs.lemmas.List.Sums.{sum_by-cons}
use Rattle.std.proofs.lemmas.List.Elements.{All-nil, All-cons, All-head, All-tail, All-append, All-weaker, filter-append}
use Rattle.subpage.specs.ItemData.{ItemData, item_time}
use Rattle.subpage.specs.Arrangement.{Keyed, CpusRise, IsRising, key_of, cpu_of, keyed_from, with_key, by_key, put}
use Rattle.subpage.specs.Cut.{Cut, own_cut}
use Rattle.subpage.proofs.Arranging.{one_rising, by_key-rising, by_key-with_key}
use Rattle.subpage.proofs.Filters.{filter-filter, filter-rising}
use Rattle.subpage.proofs.Keys.{items_kept}
use Rattle.page_pool.specs.declared.lane.Lane.{Lane}
use Rattle.page_pool.proofs.Keeping.{by_both}
use Rattle.event_cursor.specs.Keys.{keyed_behind}
use Rattle.event_cursor.specs.Standing.{Stands, left_of}
use Rattle.event_cursor.proofs.Standing.{left_over, stands_over}
use Rattle.time_merge.specs.LaneRows.{parts_of, row_of, rows_of, to_come, next_of}
use Rattle.time_merge.specs.Rounds.{Waiting, row_in, rows_in, due, not_due, behind, IsWaiting}
use Rattle.time_merge.specs.Rows.{Row, Rise, IsRow, coming, cpus, NotBefore, up_to}
use Rattle.time_merge.specs.Turns.{keyed_used}
use Rattle.time_merge.proofs.LaneLaws.{after_above, bound_is, is_row, keyed_own, rows_rise}
use Rattle.time_merge.proofs.Parting.{all_by_key}
use Rattle.time_merge.proofs.RoundLaws.{round}
use Rattle.time_merge.proofs.RowLaws.{From, from, parts_later, cut_reached}
use Rattle.split_pieces.specs.Allowing.{IsEventUpTo}
use Rattle.split_pieces.specs.Cuts.{items_of_cpu}
use Rattle.split_passes.specs.declared.tally.Tally.{Tally}
use Rattle.split_passes.specs.Rounds.{IsEventItem, IsUsed, TakesUpTo}
use Rattle.split_passes.proofs.LaneRounds.{used_keeps, used_keys}
use Rattle.split_passes.proofs.Running.{filter_all, filter_no, item_of, rises_tail}
use Rattle.split_passes.proofs.TurnLaws.{keyed_long}

-- KEYS

keys_rise : (cpu high : ℕ) (xs : List ItemData) → IsRising key_of (keyed_from cpu high xs)
keys_rise cpu high [] = tt
keys_rise cpu high (x ∷ []) = tt
keys_rise cpu high (x ∷ y ∷ ys) = (omega arith, keys_rise cpu (max high (item_time x)) (y ∷ ys))

events_up_to : (until cpu high : ℕ) (xs : List ItemData) → All IsEventItem xs → All (λ x. x.key ≤ until) (keyed_from cpu high xs) → All (IsEventUpTo until) (keyed_from cpu high xs)
events_up_to until cpu high [] e h = All-nil (IsEventUpTo until)
events_up_to until cpu high (x ∷ xs) e h =
    let rest = keyed_from cpu (max high (item_time x)) xs in
    All-cons (IsEventUpTo until) _ rest (All-head IsEventItem x xs e, All-head (λ y. y.key ≤ until) _ rest h)
    (events_up_to until cpu (max high (item_time x)) xs (All-tail IsEventItem x xs e) (All-tail (λ y. y.key ≤ until) _ rest h))

put_long : (x : Keyed) (xs : List Keyed) → length (put key_of x xs) ≡ suc (length xs)
put_long x [] = refl
put_long x (y ∷ ys) = elim (cases_Bool (leb x.key y.key)) [
  | inl b ↦ rw b refl
  | inr b ↦ rw b (ap suc (put_long x ys))
]

pub by_key_long : (xs : List Keyed) → length (by_key key_of xs) ≡ length xs
by_key_long [] = refl
by_key_long (x ∷ xs) = put_long x (by_key key_of xs) ∙ ap suc (by_key_long xs)

-- ONE PROCESSOR'S OWN

own_with : (cpu high : ℕ) (xs : List ItemData) → with_key cpu_of cpu (keyed_from cpu high xs) ≡ keyed_from cpu high xs
own_with cpu high xs = filter_all (λ (y : Keyed). eqb y.cpu cpu) (keyed_from cpu high xs) (All-weaker (λ (y : Keyed). y.cpu ≡ cpu) (λ (y : Keyed). eqb y.cpu cpu ≡ true) (λ y e. eq-eqb y.cpu cpu e) (keyed_from cpu high xs) (keyed_own cpu high xs))

other_with : (c cpu high : ℕ) (xs : List ItemData) → (cpu ≡ c → ⊥) → with_key cpu_of c (keyed_from cpu high xs) ≡ []
other_with c cpu high xs other =
    filter_no (λ (y : Keyed). eqb y.cpu c) (keyed_from cpu high xs) (All-weaker (λ (y : Keyed). y.cpu ≡ cpu) (λ (y : Keyed). eqb y.cpu c ≡ false) (λ y e. ne_eqb y.cpu c (λ same. other (sym e ∙ same))) (keyed_from cpu high xs) (keyed_own cpu high xs))

-- what the lanes used up, lane by lane
abbrev pub useds : List Lane → List (List ItemData) → List Keyed
useds [] lists = []
useds (a ∷ lanes) [] = []
useds (a ∷ lanes) (xs ∷ lists) = keyed_used a xs ++ useds lanes lists

none_of : (c : ℕ) (lanes : List Lane) (lists : List (List ItemData)) → All (λ a. c < a.cpu) lanes → with_key cpu_of c (useds lanes lists) ≡ []
none_of c [] lists later = refl
none_of c (a ∷ lanes) [] later = refl
none_of c (a ∷ lanes) (xs ∷ lists) later =
    filter-append (λ (y : Keyed). eqb y.cpu c) (keyed_used a xs) (useds lanes lists)
    ∙ ap (λ (ys : List Keyed). ys ++ with_key cpu_of c (useds lanes lists)) (other_with c a.cpu (unwrap_or a.cursor.high 0) xs (λ e. omega (arith, e, All-head (λ b. c < b.cpu) a lanes later)))
    ∙ none_of c lanes lists (All-tail (λ b. c < b.cpu) a lanes later)

own_of : (lanes : List Lane) (lists : List (List ItemData)) (i : ℕ) (d : Lane) → CpusRise (parts_of lanes) → i < length lanes → i < length lists
    → with_key cpu_of (get_or lanes i d).cpu (useds lanes lists) ≡ keyed_used (get_or lanes i d) (get_or lists i [])
own_of [] lists i d rise lt lt2 = absurd (omega (arith, lt))
own_of (a ∷ lanes) [] i d rise lt lt2 = absurd (omega (arith, lt2))
own_of (a ∷ lanes) (xs ∷ lists) zero d rise lt lt2 =
    filter-append (λ (y : Keyed). eqb y.cpu a.cpu) (keyed_used a xs) (useds lanes lists)
    ∙ ap (λ (ys : List Keyed). ys ++ with_key cpu_of a.cpu (useds lanes lists)) (own_with a.cpu (unwrap_or a.cursor.high 0) xs)
    ∙ ap (λ (ys : List Keyed). keyed_used a xs ++ ys) (none_of a.cpu lanes lists (after_above a lanes rise))
    ∙ append-nil (keyed_used a xs)
own_of (a ∷ lanes) (xs ∷ lists) (suc i) d rise lt lt2 =
    let c = (get_or lanes i d).cpu in
    let later : a.cpu < c = after_above a lanes rise i d (omega (arith, lt)) in
    filter-append (λ (y : Keyed). eqb y.cpu c) (keyed_used a xs) (useds lanes lists)
    ∙ ap (λ (ys : List Keyed). ys ++ with_key cpu_of c (useds lanes lists)) (other_with c a.cpu (unwrap_or a.cursor.high 0) xs (λ e. omega (arith, e, later)))
    ∙ own_of lanes lists i d (rises_tail a lanes rise) (omega (arith, lt)) (omega (arith, lt2))

both : (k c : ℕ) (xs : List Keyed) → with_key cpu_of c (with_key key_of k xs) ≡ with_key key_of k (with_key cpu_of c xs)
both k c xs = filter-filter (λ x. eqb (cpu_of x) c) (λ x. eqb (key_of x) k) xs

-- in the order of keys each processor's own stand as they stood
own_by_key : (c : ℕ) (xs : List Keyed) → IsRising key_of (with_key cpu_of c xs) → with_key cpu_of c (by_key key_of xs) ≡ with_key cpu_of c xs
own_by_key c xs rises =
    one_rising key_of (with_key cpu_of c (by_key key_of xs)) (with_key cpu_of c xs)
    (filter-rising key_of (λ x. eqb (cpu_of x) c) (by_key key_of xs) (by_key-rising key_of xs)) rises
    (λ z. sym (both z.key c (by_key key_of xs)) ∙ ap (with_key cpu_of c) (by_key-with_key key_of z.key xs) ∙ both z.key c xs)

-- what a round takes of all lanes
abbrev pub taken_of : List Lane → List (List ItemData) → List Keyed
taken_of lanes lists = by_key key_of (useds lanes lists)

pub own_taken : (lanes : List Lane) (lists : List (List ItemData)) (i : ℕ) (d : Lane) → CpusRise (parts_of lanes) → i < length lanes → length lists ≡ length lanes
    → items_of_cpu (get_or lanes i d).cpu (taken_of lanes lists) ≡ get_or lists i []
own_taken lanes lists i d rise lt long =
    let a = get_or lanes i d in
    let xs = get_or lists i [] in
    let high = unwrap_or a.cursor.high 0 in
    let own : with_key cpu_of a.cpu (useds lanes lists) ≡ keyed_used a xs = own_of lanes lists i d rise lt (omega (arith, lt, long)) in
    ap (map item_of) (own_by_key a.cpu (useds lanes lists) (subst (IsRising key_of) (sym own) (keys_rise a.cpu high xs)) ∙ own) ∙ items_kept a.cpu high xs

-- FILES

module _ (file : List ℕ) (until : ℕ) where
  -- A lane used up its items up to the horizon: nothing else of it comes before that.
  pub record Took (a b : Lane) (xs : List ItemData) : Type 0 where
    pub stands : Stands file b
    pub is : IsRow key_of cpu_of (row_of file b)
    pub left : left_of file a ≡ xs ++ left_of file b
    pub items : (row_of file a).items ≡ keyed_used a xs ++ (row_of file b).items
    pub cpu : b.cpu ≡ a.cpu
    pub cut : own_cut b.layout file (b.cpu, b.part) ≡ own_cut a.layout file (a.cpu, a.part)
    pub up_to : All (IsEventUpTo until) (keyed_used a xs)
    pub later : From key_of cpu_of ((until + 1) + 1) (row_of file b)

  used_stands : (xs : List ItemData) (a b : Lane) → IsUsed xs a b → Stands file a → Stands file b × (left_of file a ≡ xs ++ left_of file b)
  used_stands xs a b (inl u) s = (subst (Stands file) (sym u.1) s, ap (left_of file) (sym u.1) ∙ ap (λ (ys : List ItemData). ys ++ left_of file b) (sym u.0))
  used_stands xs a b (inr u) s = (stands_over file xs a b u.0 u.1 s, left_over file xs a b u.1)

  pub took : (most : ℕ) (a b : Lane) (t u : Tally) (xs : List ItemData) → Stands file a → TakesUpTo until most a b t u xs → Took a b xs
  took most a b t u xs s h =
      let now = used_stands xs a b h.few.used s in
      let keeps = used_keeps xs a b h.few.used in
      record {
        stands = now.0;
        is = is_row file b now.0;
        left = now.1;
        items = ap (keyed_behind a.cpu a.cursor.high) now.1 ∙ used_keys xs (left_of file b) a b h.few.used;
        cpu = keeps.cpu;
        cut = ap (λ (c : ℕ). own_cut b.layout file (c, b.part)) keeps.cpu ∙ by_both (λ k q. own_cut k file (a.cpu, q)) keeps.layout keeps.part;
        up_to = events_up_to until a.cpu (unwrap_or a.cursor.high 0) xs h.events h.few.up_to;
        later = let same : until + 2 ≡ (until + 1) + 1 = omega arith in from key_of cpu_of ((until + 1) + 1) (row_of file b) (is_row file b now.0) (subst (NotBefore ((until + 1) + 1)) (sym (bound_is file b now.0 h.ready)) (subst (λ (n : ℕ). NotBefore n (next_of b)) same h.later));
      }

  abbrev waiting : Lane → Lane → List ItemData → Waiting Keyed
  waiting a b xs = record { cpu = a.cpu; kept = keyed_used a xs; more = (row_of file b).items; cut = own_cut a.layout file (a.cpu, a.part) }

  row_with : ℕ → List Keyed → Option Cut → Row Keyed
  row_with cpu items cut = record { cpu = cpu; items = items; cut = cut }

  due_all : (xs : List Keyed) → All (IsEventUpTo until) xs → (due key_of cpu_of (until + 1) 0 xs ≡ xs) × (not_due key_of cpu_of (until + 1) 0 xs ≡ [])
  due_all [] h = (refl, refl)
  due_all (x ∷ xs) h =
      let here : ltb x.key (until + 1) ≡ true = lt-ltb _ _ (omega (arith, (All-head (IsEventUpTo until) x xs h).1)) in
      let rest = due_all xs (All-tail (IsEventUpTo until) x xs h) in
      (rw here (ap (λ (ys : List Keyed). x ∷ ys) rest.0), rw here rest.1)

  waits : (a b : Lane) (xs : List ItemData) → Took a b xs → IsWaiting key_of cpu_of (until + 1) 0 (waiting a b xs)
  waits a b xs t =
      let none : (row_of file b).cpu < 0 → ⊥ = λ lt. omega (arith, lt) in
      record {
        own_kept = keyed_own a.cpu (unwrap_or a.cursor.high 0) xs;
        own_more = All-weaker (λ x. x.cpu ≡ b.cpu) (λ x. x.cpu ≡ a.cpu) (λ x e. e ∙ t.cpu) (row_of file b).items t.is.own;
        rising = keys_rise a.cpu (unwrap_or a.cursor.high 0) xs;
        more = (parts_later key_of cpu_of (until + 1) 0 (row_of file b) t.is none t.later).left;
        cut = subst (λ (o : Option Cut). IfSome o (λ cut. up_to (Some cut) (until + 1) 0 ≡ true)) t.cut (cut_reached key_of cpu_of (until + 1) 0 (row_of file b) t.is t.later none);
      }

  row_before : (a b : Lane) (xs : List ItemData) → Took a b xs → row_in (waiting a b xs) ≡ row_of file a
  unfolding row_with
  row_before a b xs t = ap (λ (ys : List Keyed). row_with a.cpu ys (own_cut a.layout file (a.cpu, a.part))) (sym t.items)

  row_after : (a b : Lane) (xs : List ItemData) → Took a b xs → row_in (behind key_of cpu_of (until + 1) 0 (waiting a b xs)) ≡ row_of file b
  unfolding row_with
  row_after a b xs t =
      ap (λ (ys : List Keyed). row_with a.cpu (ys ++ (row_of file b).items) (own_cut a.layout file (a.cpu, a.part))) (due_all (keyed_used a xs) t.up_to).1
      ∙ ap (λ (n : ℕ). row_with n (row_of file b).items (own_cut a.layout file (a.cpu, a.part))) (sym t.cpu)
      ∙ ap (row_with b.cpu (row_of file b).items) (sym t.cut)

  abbrev AllTook : List Lane → List Lane → List (List ItemData) → Type 0
  AllTook lanes now lists = (i : ℕ) (d : Lane) → i < length lanes → Took (get_or lanes i d) (get_or now i d) (get_or lists i [])

  took_tail : (a b : Lane) (xs : List ItemData) (lanes now : List Lane) (lists : List (List ItemData)) → AllTook (a ∷ lanes) (b ∷ now) (xs ∷ lists) → AllTook lanes now lists
  took_tail a b xs lanes now lists h i d lt = h (suc i) d (omega (arith, lt))

  abbrev waitings : List Lane → List Lane → List (List ItemData) → List (Waiting Keyed)
  waitings [] now lists = []
  waitings (a ∷ lanes) [] lists = []
  waitings (a ∷ lanes) (b ∷ now) [] = []
  waitings (a ∷ lanes) (b ∷ now) (xs ∷ lists) = waiting a b xs ∷ waitings lanes now lists

  -- Of each lane both rows, what is due, and that it waits.
  record Parts (lanes now : List Lane) (lists : List (List ItemData)) : Type 0 where
    before : rows_in (waitings lanes now lists) ≡ rows_of file lanes
    after : rows_in (map (behind key_of cpu_of (until + 1) 0) (waitings lanes now lists)) ≡ rows_of file now
    kept : flat_map (λ w. due key_of cpu_of (until + 1) 0 w.kept) (waitings lanes now lists) ≡ useds lanes lists
    wait : All (IsWaiting key_of cpu_of (until + 1) 0) (waitings lanes now lists)
    events : All (IsEventUpTo until) (useds lanes lists)

  parts_are : (lanes now : List Lane) (lists : List (List ItemData)) → length now ≡ length lanes → length lists ≡ length lanes → AllTook lanes now lists → Parts lanes now lists
  parts_are [] [] lists long long2 h = record { before = refl; after = refl; kept = refl; wait = All-nil (IsWaiting key_of cpu_of (until + 1) 0); events = All-nil (IsEventUpTo until) }
  parts_are [] (b ∷ now) lists long long2 h = absurd (omega (arith, long))
  parts_are (a ∷ lanes) [] lists long long2 h = absurd (omega (arith, long))
  parts_are (a ∷ lanes) (b ∷ now) [] long long2 h = absurd (omega (arith, long2))
  parts_are (a ∷ lanes) (b ∷ now) (xs ∷ lists) long long2 h =
      let t : Took a b xs = h zero a (omega arith) in
      let rest = parts_are lanes now lists (omega (arith, long)) (omega (arith, long2)) (took_tail a b xs lanes now lists h) in
      record {
        before = ap (λ (r : Row Keyed). r ∷ rows_in (waitings lanes now lists)) (row_before a b xs t) ∙ ap (λ (rs : List (Row Keyed)). row_of file a ∷ rs) rest.before;
        after = ap (λ (r : Row Keyed). r ∷ rows_in (map (behind key_of cpu_of (until + 1) 0) (waitings lanes now lists))) (row_after a b xs t) ∙ ap (λ (rs : List (Row Keyed)). row_of file b ∷ rs) rest.after;
        kept = ap (λ (ys : List Keyed). ys ++ flat_map (λ w. due key_of cpu_of (until + 1) 0 w.kept) (waitings lanes now lists)) (due_all (keyed_used a xs) t.up_to).0 ∙ ap (λ (ys : List Keyed). keyed_used a xs ++ ys) rest.kept;
        wait = All-cons (IsWaiting key_of cpu_of (until + 1) 0) (waiting a b xs) (waitings lanes now lists) (waits a b xs t) rest.wait;
        events = All-append (IsEventUpTo until) (keyed_used a xs) (useds lanes lists) t.up_to rest.events;
      }

  -- what is to come is what the round takes, and then what is to come without it
  pub round_comes : (lanes now : List Lane) (lists : List (List ItemData)) → CpusRise (parts_of lanes) → length now ≡ length lanes → length lists ≡ length lanes → AllTook lanes now lists
      → to_come file lanes ≡ taken_of lanes lists ++ to_come file now
  round_comes lanes now lists rise long long2 h =
      let p = parts_are lanes now lists long long2 h in
      let w = waitings lanes now lists in
      let k = until + 1 in
      ap (coming key_of cpu_of) (sym p.before)
      ∙ round key_of cpu_of k 0 w (subst (λ (rs : List (Row Keyed)). Rise (cpus rs)) (sym p.before) (rows_rise file lanes rise)) p.wait
      ∙ ap (λ (xs : List Keyed). by_key key_of xs ++ coming key_of cpu_of (rows_in (map (behind key_of cpu_of k 0) w))) p.kept
      ∙ ap (λ (rs : List (Row Keyed)). taken_of lanes lists ++ coming key_of cpu_of rs) p.after

  pub round_events : (lanes now : List Lane) (lists : List (List ItemData)) → length now ≡ length lanes → length lists ≡ length lanes → AllTook lanes now lists → All (IsEventUpTo until) (taken_of lanes lists)
  round_events lanes now lists long long2 h = all_by_key key_of (IsEventUpTo until) (useds lanes lists) (parts_are lanes now lists long long2 h).events

useds_long : (lanes : List Lane) (lists : List (List ItemData)) → length lists ≡ length lanes → length (useds lanes lists) ≡ sum_by length lists
useds_long [] [] long = refl
useds_long [] (xs ∷ lists) long = absurd (omega (arith, long))
useds_long (a ∷ lanes) [] long = absurd (omega (arith, long))
useds_long (a ∷ lanes) (xs ∷ lists) long =
    length-append (keyed_used a xs) (useds lanes lists) ∙ ap (λ (n : ℕ). n + length (useds lanes lists)) (keyed_long a.cpu (unwrap_or a.cursor.high 0) xs)
    ∙ ap (λ (n : ℕ). length xs + n) (useds_long lanes lists (omega (arith, long))) ∙ sym (sum_by-cons length xs lists)

pub taken_long : (lanes : List Lane) (lists : List (List ItemData)) → length lists ≡ length lanes → length (taken_of lanes lists) ≡ sum_by length lists
taken_long lanes lists long = by_key_long (useds lanes lists) ∙ useds_long lanes lists long
