-- The pieces of a file, list by list.
use Rattle.std.proofs.Common.{◌≡◌, ◌≢◌, ℕ, zero, suc, ◌+◌, ◌<◌, ◌≤◌, Bool, true, false, ◌&&◌, ◌||◌, not, if◌then◌else◌, List, [], ◌∷◌, ◌++◌, length, get_or, set, take, drop, map, Option, Some, None, refl, sym, ap, subst, ◌∙◌, append-nil, append_assoc, arith}
use Rattle.std.specs.Option.{option_map, option_or}
use Rattle.std.specs.List.{All, filter_map, fold, slice_get, cons_option}
use Rattle.std.proofs.lemmas.List.{drop_at, length-append, set-get_or, take_all, take_more_set}
use Rattle.std.proofs.lemmas.List.Elements.{All-head, All-tail}
use Rattle.trace_base.specs.declared.layout.Layout.{Layout}
use Rattle.trace_base.specs.declared.part.Part.{Part}
use Rattle.subpage.specs.ItemData.{ItemData}
use Rattle.subpage.specs.Arrangement.{Keyed, CpusRise}
use Rattle.subpage.specs.Cut.{Cut, earlier, own_cut}
use Rattle.subpage.specs.CutPlaces.{place_of}
use Rattle.subpage.specs.declared.cut_place.CutPlace.{CutPlace}
use Rattle.page_pool.specs.declared.lane.Lane.{Lane}
use Rattle.event_cursor.specs.Standing.{Stands, left_of}
use Rattle.time_merge.specs.Rows.{Row, least_cut}
use Rattle.time_merge.specs.LaneRows.{IsReady, parts_of, row_of, rows_of, to_come}
use Rattle.word_values.specs.declared.moment.Moment.{Moment}
use Rattle.split_pieces.specs.declared.gauge.Gauge.{Gauge}
use Rattle.split_pieces.specs.declared.rules.Rules.{Rules}
use Rattle.split_pieces.specs.Cuts.{is_apart, items_of_cpu}
use Rattle.split_pieces.specs.Pieces.{up_to_end, has_end, unit_closes, is_some_left, piece, rest, joined_lists, next_file, behind_file}
use Rattle.split_pieces.specs.Gauging.{piece_by, closes_by}
use Rattle.split_passes.specs.ListSeen.{ListSeen}
use Rattle.split_passes.specs.declared.tally.Tally.{Tally}
use Rattle.split_passes.specs.declared.measuring.PieceEnd.{PieceEnd}
use Rattle.split_passes.specs.declared.measuring.PieceEnd.TheVariants as code
use Rattle.split_passes.specs.Tallies.{IsTally}
use Rattle.split_passes.specs.Measures.{Tallied, Measured, IsMeasured, SkipsOver, list_left}
use Rattle.split_tool.specs.declared.lists.Ends.{Ends}
use Rattle.split_tool.specs.Going.{ListBegun, ListDone, ListGoes}
use Rattle.split_tool.specs.Lists.{AreGroups, EachList, come_of, lanes_of, left_in_rows, bad_in_rows, lists_left, bad_left}
use Rattle.split_tool.specs.Measured.{is_full, bad_of_end, PieceTaken, ListMeasured, taken_of, FileMeasured}
use Rattle.split_tool.proofs.Beginning.{single, one_bad}
use Rattle.split_tool.proofs.Owning.{own_apart}
use Rattle.split_tool.proofs.Flat.{all_flat, each_tail, groups_are, groups_stay, rows_in, single_at}
use Rattle.split_tool.proofs.Gone.{first_more, stands_there}

-- ONE LIST

bad_by : Bool → Bool → Bool → Option CutPlace → Option CutPlace
bad_by has again closes bad = if has || (not again && closes) then None else bad

module _ (file : List ℕ) (rules : Rules) where
  rows_bad : (rows : List (Row Keyed)) → bad_in_rows rules rows ≡ bad_by (has_end rules.stop (come_of rows)) rules.repeat (unit_closes rules.unit (left_in_rows rules.stop rows)) (option_map place_of (least_cut rows))
  unfolding bad_by
  rows_bad rows = refl

past_bad : (again closes : Bool) (bad : Option CutPlace) → bad_by true again closes bad ≡ None
unfolding bad_by
past_bad again closes bad = refl

full_bad : (has : Bool) (bad : Option CutPlace) → bad_by has false true bad ≡ None
unfolding bad_by
full_bad true bad = refl
full_bad false bad = refl

no_bad : (has again closes : Bool) → bad_by has again closes None ≡ None
unfolding bad_by
no_bad true again closes = refl
no_bad false true closes = refl
no_bad false false true = refl
no_bad false false false = refl

repeat_bad : (has : Bool) (closes other : Bool) (bad : Option CutPlace) → bad_by has true closes bad ≡ bad_by has true other bad
unfolding bad_by
repeat_bad true closes other bad = refl
repeat_bad false closes other bad = refl

end_bad : (again closes : Bool) (cut : CutPlace) → bad_by false again closes (Some cut) ≡ bad_of_end (code.Malformed cut) (not again && closes)
unfolding bad_by
end_bad true closes cut = refl
end_bad false true cut = refl
end_bad false false cut = refl

or_true : (b : Bool) → (b || true) ≡ true
or_true true = refl
or_true false = refl

no_end : (stop : Option Moment) → has_end stop [] ≡ false
no_end None = refl
no_end (Some m) = refl

none_up : (stop : Option Moment) → up_to_end stop [] ≡ []
none_up None = refl
none_up (Some m) = refl

some_there : (xs : List Keyed) → xs ≢ [] → is_some_left xs ≡ true
some_there [] some = absurd (some refl)
some_there (x ∷ xs) some = refl

abbrev part_of : Lane → ℕ × Part
part_of a = (a.cpu, a.part)

-- lanes with the same parts and layouts have the same cuts
same_cuts : (file : List ℕ) (first now : List Lane) → parts_of now ≡ parts_of first → ((i : ℕ) (d : Lane) → i < length first → (get_or now i d).layout ≡ (get_or first i d).layout)
    → filter_map (λ (row : Row Keyed). row.cut) (rows_of file now) ≡ filter_map (λ (row : Row Keyed). row.cut) (rows_of file first)
same_cuts file [] [] parts layouts = refl
same_cuts file [] (b ∷ now) parts layouts = absurd cc
same_cuts file (a ∷ first) [] parts layouts = absurd cc
same_cuts file (a ∷ first) (b ∷ now) parts layouts =
    let mine : part_of b ≡ part_of a = cc in
    let others : parts_of now ≡ parts_of first = cc in
    let cut : own_cut b.layout file (b.cpu, b.part) ≡ own_cut a.layout file (a.cpu, a.part) = ap (λ (k : Layout). own_cut k file (b.cpu, b.part)) (layouts 0 a (omega arith)) ∙ ap (own_cut a.layout file) mine in
    ap (λ (c : Option Cut). cons_option c (filter_map (λ (row : Row Keyed). row.cut) (rows_of file now))) cut
    ∙ ap (cons_option (own_cut a.layout file (a.cpu, a.part))) (same_cuts file first now others (λ i d lt. layouts (suc i) d (omega (arith, lt))))

module _ (file : List ℕ) (rules : Rules) (gauge after : Gauge) (first now : List Lane) (tallies : List Tally) (same_piece : (xs : List Keyed) → piece_by gauge xs ≡ piece rules.unit xs)
    (same_closes : (xs : List Keyed) → closes_by gauge xs ≡ unit_closes rules.unit xs) (parts : parts_of now ≡ parts_of first) (m : Measured file rules.stop gauge first now tallies) where
  left_first : List Keyed
  left_first = left_in_rows rules.stop (rows_of file first)

  cuts : least_cut (rows_of file now) ≡ least_cut (rows_of file first)
  cuts = ap (fold earlier None) (same_cuts file first now parts m.passed.layouts)

  taken_is : m.taken ≡ piece rules.unit (left_in_rows rules.stop (rows_of file first))
  taken_is = sym m.piece ∙ same_piece (left_in_rows rules.stop (rows_of file first))

  again_bad : rules.repeat ≡ true → bad_in_rows rules (rows_of file now) ≡ bad_in_rows rules (rows_of file first)
  again_bad again =
      let a = rows_of file first in
      let b = rows_of file now in
      rows_bad file rules b
      ∙ ap (λ (h : Bool). bad_by h rules.repeat (unit_closes rules.unit (left_in_rows rules.stop b)) (option_map place_of (least_cut b))) (sym m.ended)
      ∙ ap (λ (c : Option Cut). bad_by (has_end rules.stop (come_of a)) rules.repeat (unit_closes rules.unit (left_in_rows rules.stop b)) (option_map place_of c)) cuts
      ∙ ap (λ (r : Bool). bad_by (has_end rules.stop (come_of a)) r (unit_closes rules.unit (left_in_rows rules.stop b)) (option_map place_of (least_cut a))) again
      ∙ repeat_bad (has_end rules.stop (come_of a)) (unit_closes rules.unit (left_in_rows rules.stop b)) (unit_closes rules.unit (left_in_rows rules.stop a)) (option_map place_of (least_cut a))
      ∙ ap (λ (r : Bool). bad_by (has_end rules.stop (come_of a)) r (unit_closes rules.unit (left_in_rows rules.stop a)) (option_map place_of (least_cut a))) (sym again)
      ∙ sym (rows_bad file rules a)

  pub piece_taken : PieceTaken file rules first now tallies
  piece_taken = record {
    taken = m.taken;
    passed = m.passed;
    tallied = m.tallied;
    piece = taken_is;
    left = sym (drop_at m.taken (left_in_rows rules.stop (rows_of file now)) (length m.taken) refl) ∙ ap (drop (length m.taken)) (sym m.within)
        ∙ ap (λ (ts : List Keyed). drop (length ts) (left_in_rows rules.stop (rows_of file first))) taken_is;
    bad = again_bad;
  }

  first_bad : bad_in_rows rules (rows_of file first) ≡ bad_by (has_end rules.stop (come_of (rows_of file now))) rules.repeat (closes_by gauge (list_left file rules.stop first)) (option_map place_of (least_cut (rows_of file now)))
  first_bad =
      let a = rows_of file first in
      let b = rows_of file now in
      rows_bad file rules a
      ∙ ap (λ (h : Bool). bad_by h rules.repeat (unit_closes rules.unit (left_in_rows rules.stop a)) (option_map place_of (least_cut a))) m.ended
      ∙ ap (λ (u : Bool). bad_by (has_end rules.stop (come_of b)) rules.repeat u (option_map place_of (least_cut a))) (sym (same_closes (left_in_rows rules.stop a)))
      ∙ ap (λ (c : Option Cut). bad_by (has_end rules.stop (come_of b)) rules.repeat (closes_by gauge (list_left file rules.stop first)) (option_map place_of c)) (sym cuts)

  measured_by : (before ends : Ends) (end : PieceEnd) (closed : Bool) → ends.more ≡ (before.more || is_full end) → ends.bad ≡ option_or before.bad (bad_of_end end closed)
      → is_full end ≡ is_some_left (left_in_rows rules.stop (rows_of file now))
      → ((ends.more && rules.repeat) ≡ false → bad_of_end end closed ≡ bad_in_rows rules (rows_of file first))
      → ListMeasured file rules (record { lanes = first; ends = before }) (record { lanes = now; ends = ends }) tallies
  measured_by before ends end closed more bad full same = record {
    taken = piece_taken;
    more = more ∙ ap (λ (b : Bool). before.more || b) full;
    bad = λ last. bad ∙ ap (option_or before.bad) (same last);
  }

  nothing_now : to_come file now ≡ [] → left_in_rows rules.stop (rows_of file now) ≡ []
  nothing_now none = ap (up_to_end rules.stop) none ∙ none_up rules.stop

pub list_measured : (file : List ℕ) (rules : Rules) (gauge after : Gauge) (first now : List Lane) (tallies : List Tally) (before ends : Ends) (end : PieceEnd) (closed : Bool)
    → ((xs : List Keyed) → piece_by gauge xs ≡ piece rules.unit xs) → ((xs : List Keyed) → closes_by gauge xs ≡ unit_closes rules.unit xs) → parts_of now ≡ parts_of first
    → closed ≡ (not rules.repeat && closes_by after []) → ends.more ≡ (before.more || is_full end) → ends.bad ≡ option_or before.bad (bad_of_end end closed)
    → IsMeasured file rules.stop (record { gauge = gauge; lanes = first }) (record { gauge = after; lanes = now }) tallies end → ListMeasured file rules (record { lanes = first; ends = before }) (record { lanes = now; ends = ends }) tallies
list_measured file rules gauge after first now tallies before ends code.Full closed sp sc parts close more bad m =
    let all : ends.more ≡ true = more ∙ or_true before.more in
    measured_by file rules gauge after first now tallies sp sc parts m.0 before ends code.Full closed more bad (sym (some_there _ m.1.0))
    (λ last.
    let again : rules.repeat ≡ false = sym (ap (λ (b : Bool). b && rules.repeat) all) ∙ last in
    sym (first_bad file rules gauge after first now tallies sp sc parts m.0
    ∙ ap (λ (u : Bool). bad_by (has_end rules.stop (come_of (rows_of file now))) rules.repeat u (option_map place_of (least_cut (rows_of file now)))) m.1.1
    ∙ ap (λ (r : Bool). bad_by (has_end rules.stop (come_of (rows_of file now))) r true (option_map place_of (least_cut (rows_of file now)))) again
    ∙ full_bad _ _))
list_measured file rules gauge after first now tallies before ends code.Past closed sp sc parts close more bad m =
    measured_by file rules gauge after first now tallies sp sc parts m.0 before ends code.Past closed more bad (sym (ap is_some_left m.1.0))
    (λ last. sym (first_bad file rules gauge after first now tallies sp sc parts m.0
    ∙ ap (λ (h : Bool). bad_by h rules.repeat (closes_by gauge (list_left file rules.stop first)) (option_map place_of (least_cut (rows_of file now)))) m.1.1
    ∙ past_bad _ _ _))
list_measured file rules gauge after first now tallies before ends code.Done closed sp sc parts close more bad m =
    measured_by file rules gauge after first now tallies sp sc parts m.0 before ends code.Done closed more bad (sym (ap is_some_left (nothing_now file rules gauge after first now tallies sp sc parts m.0 m.1.0)))
    (λ last. sym (first_bad file rules gauge after first now tallies sp sc parts m.0
    ∙ ap (λ (c : Option Cut). bad_by (has_end rules.stop (come_of (rows_of file now))) rules.repeat (closes_by gauge (list_left file rules.stop first)) (option_map place_of c)) m.1.2
    ∙ no_bad _ _ _))
list_measured file rules gauge after first now tallies before ends (code.Malformed cut) closed sp sc parts close more bad m =
    measured_by file rules gauge after first now tallies sp sc parts m.0 before ends (code.Malformed cut) closed more bad (sym (ap is_some_left (nothing_now file rules gauge after first now tallies sp sc parts m.0 m.1.0)))
    (λ last. sym (first_bad file rules gauge after first now tallies sp sc parts m.0
    ∙ ap (λ (h : Bool). bad_by h rules.repeat (closes_by gauge (list_left file rules.stop first)) (option_map place_of (least_cut (rows_of file now)))) (ap (has_end rules.stop) m.1.0 ∙ no_end rules.stop)
    ∙ ap (λ (u : Bool). bad_by false rules.repeat u (option_map place_of (least_cut (rows_of file now)))) m.1.1
    ∙ ap (λ (c : Option Cut). bad_by false rules.repeat (closes_by after []) (option_map place_of c)) m.1.2.1
    ∙ end_bad rules.repeat (closes_by after []) cut
    ∙ ap (bad_of_end (code.Malformed cut)) (sym close)))

-- LIST BY LIST

abbrev pub left_seen : List ℕ → Rules → ListSeen → List Keyed
left_seen file rules x = left_in_rows rules.stop (rows_in file x)

abbrev pub bad_seen : List ℕ → Rules → ListSeen → Option CutPlace
bad_seen file rules x = bad_in_rows rules (rows_in file x)

abbrev pub first_bad_seen : List ℕ → Rules → List ListSeen → Option CutPlace
first_bad_seen file rules lists = slice_get (filter_map (bad_seen file rules) lists) 0

lefts_seen : (file : List ℕ) (rules : Rules) (lists : List ListSeen) → map (left_in_rows rules.stop) (map (rows_in file) lists) ≡ map (left_seen file rules) lists
lefts_seen file rules [] = refl
lefts_seen file rules (x ∷ lists) = ap (λ (xss : List (List Keyed)). left_seen file rules x ∷ xss) (lefts_seen file rules lists)

bads_seen : (file : List ℕ) (rules : Rules) (lists : List ListSeen) → filter_map (bad_in_rows rules) (map (rows_in file) lists) ≡ filter_map (bad_seen file rules) lists
bads_seen file rules [] = refl
bads_seen file rules (x ∷ lists) = ap (cons_option (bad_seen file rules x)) (bads_seen file rules lists)

-- what all lists have left
left_of_lists : (file : List ℕ) (rules : Rules) (lists : List ListSeen) → AreGroups (is_apart rules) lists → lists_left file rules (lanes_of lists) ≡ map (left_seen file rules) lists
left_of_lists file rules lists g = ap (map (left_in_rows rules.stop)) (groups_are file (is_apart rules) lists g) ∙ lefts_seen file rules lists

bad_of_lists : (file : List ℕ) (rules : Rules) (lists : List ListSeen) → AreGroups (is_apart rules) lists → bad_left file rules (lanes_of lists) ≡ first_bad_seen file rules lists
bad_of_lists file rules lists g =
    ap (λ (gs : List (List (Row Keyed))). slice_get (filter_map (bad_in_rows rules) gs) 0) (groups_are file (is_apart rules) lists g)
    ∙ ap (λ (bads : List CutPlace). slice_get bads 0) (bads_seen file rules lists)

abbrev pub ListTaken : List ℕ → Rules → ListSeen → ListSeen → Type 0
ListTaken file rules x y = PieceTaken file rules x.all y.all y.tallies

-- the first n lists are measured
pub record MeasuredTo (file : List ℕ) (rules : Rules) (n : ℕ) (first now : List ListSeen) (ends : Ends) : Type 0 where
  pub each : (j : ℕ) (d : ListSeen) → j < n → ListTaken file rules (get_or first j d) (get_or now j d)
  pub more : ends.more ≡ is_some_left (joined_lists (map (left_seen file rules) (take n now)))
  pub bad : (ends.more && rules.repeat) ≡ false → ends.bad ≡ first_bad_seen file rules (take n first)

pub measured_none : (file : List ℕ) (rules : Rules) (lists : List ListSeen) (ends : Ends) → ends.more ≡ false → ends.bad ≡ None → MeasuredTo file rules 0 lists lists ends
measured_none file rules lists ends more bad = record { each = λ j d lt. absurd (omega (arith, lt)); more = more; bad = λ last. bad }

some_append : (xs ys : List Keyed) → is_some_left (xs ++ ys) ≡ (is_some_left xs || is_some_left ys)
some_append [] ys = refl
some_append (x ∷ xs) ys = refl

joined_push : (h : ListSeen → List Keyed) (lists : List ListSeen) (b : ListSeen) → joined_lists (map h (lists ++ b ∷ [])) ≡ joined_lists (map h lists) ++ h b
joined_push h [] b = append-nil (h b)
joined_push h (a ∷ lists) b = ap (λ (xs : List Keyed). h a ++ xs) (joined_push h lists b) ∙ sym (append_assoc (h a) (joined_lists (map h lists)) (h b))

bads_push : (h : ListSeen → Option CutPlace) (lists : List ListSeen) (b : ListSeen) → slice_get (filter_map h (lists ++ b ∷ [])) 0 ≡ option_or (slice_get (filter_map h lists) 0) (h b)
bads_push h [] b = one_bad (h b)
bads_push h (a ∷ lists) b = by_first (h a) (filter_map h (lists ++ b ∷ [])) (filter_map h lists) (bads_push h lists b)
  where
    by_first : (o : Option CutPlace) (more few : List CutPlace) → slice_get more 0 ≡ option_or (slice_get few 0) (h b)
        → slice_get (cons_option o more) 0 ≡ option_or (slice_get (cons_option o few) 0) (h b)
    by_first None more few e = e
    by_first (Some bad) more few e = refl

earlier_last : (b s r : Bool) → ((b || s) && r) ≡ false → (b && r) ≡ false
earlier_last true s r e = e
earlier_last false s r e = refl

take_one : (n : ℕ) (first now : List ListSeen) (d : ListSeen) → n < length now → length now ≡ length first → ((j : ℕ) (e : ListSeen) → n ≤ j → get_or now j e ≡ get_or first j e) → take (n + 1) first ≡ take n first ++ get_or now n d ∷ []
take_one n first now d lt long others =
    let inside : n < length first = omega (arith, lt, long) in
    ap (take (n + 1)) (sym (set-get_or first n d)) ∙ take_more_set first n (get_or first n d) inside ∙ ap (λ (x : ListSeen). take n first ++ x ∷ []) (sym (others n d (omega arith)))

pub measured_more : (file : List ℕ) (rules : Rules) (n : ℕ) (first now : List ListSeen) (d new : ListSeen) (before ends : Ends) → n < length now → length now ≡ length first
    → ((j : ℕ) (e : ListSeen) → n ≤ j → get_or now j e ≡ get_or first j e)
    → ListMeasured file rules (record { lanes = (get_or now n d).all; ends = before }) (record { lanes = new.all; ends = ends }) new.tallies → MeasuredTo file rules n first now before
    → MeasuredTo file rules (n + 1) first (set now n new) ends
measured_more file rules n first now d new before ends lt long others m s =
    let firsts = take_one n first now d lt long others in
    let nows = take_more_set now n new lt in
    let h = left_seen file rules in
    record {
      each = first_more (ListTaken file rules) n first now d new lt others m.taken s.each;
      more = m.more ∙ ap (λ (k : Bool). k || is_some_left (h new)) s.more
          ∙ sym (some_append (joined_lists (map h (take n now))) (h new)) ∙ ap is_some_left (sym (joined_push h (take n now) new)) ∙ ap (λ (xs : List ListSeen). is_some_left (joined_lists (map h xs))) (sym nows);
      bad = λ last.
          let sooner : (before.more && rules.repeat) ≡ false = earlier_last before.more (is_some_left (h new)) rules.repeat (ap (λ (k : Bool). k && rules.repeat) (sym m.more) ∙ last) in
          m.bad last ∙ ap (λ (o : Option CutPlace). option_or o (bad_seen file rules (get_or now n d))) (s.bad sooner)
          ∙ sym (bads_push (bad_seen file rules) (take n first) (get_or now n d)) ∙ ap (first_bad_seen file rules) (sym firsts);
    }

-- the list at hand was measured
pub measured_there : (file : List ℕ) (rules : Rules) (n : ℕ) (first now : List ListSeen) (d new : ListSeen) (before ends : Ends) → n < length now → length now ≡ length first
    → ((j : ℕ) (e : ListSeen) → n ≤ j → get_or now j e ≡ get_or first j e) → All (Stands file) (lanes_of first) → All ListBegun first
    → (All (Stands file) (get_or now n d).all → Tallied (get_or now n d).all [] (get_or now n d).tallies
    → ListMeasured file rules (record { lanes = (get_or now n d).all; ends = before }) (record { lanes = new.all; ends = ends }) new.tallies)
    → MeasuredTo file rules n first now before → MeasuredTo file rules (n + 1) first (set now n new) ends
measured_there file rules n first now d new before ends lt long others stands begun one s =
    let inside : n < length first = omega (arith, lt, long) in
    let x = get_or now n d in
    let clear : Tallied x.all [] x.tallies = subst (λ (y : ListSeen). Tallied y.all [] y.tallies) (sym (others n d (omega arith))) (none_there (get_or first n d) (begun n d inside)) in
    measured_more file rules n first now d new before ends lt long others
    (one (stands_there file n first now d lt long others stands) clear) s
  where
    none_there : (y : ListSeen) → ListBegun y → Tallied y.all [] y.tallies
    none_there y b i e t lt = b.begun.none (get_or y.all i e).layout i t (omega (arith, lt, b.tallies_long))

pub list_done : (x new : ListSeen) → new.fronts ≡ x.fronts → All IsReady new.all → length new.tallies ≡ length new.all → SkipsOver x.all x.tallies new.tallies → ListDone x new
list_done x new fronts ready long over = record { fronts = fronts; ready = ready; long = long; over = over }

lefts_behind : (file : List ℕ) (rules : Rules) (first now : List ListSeen) → length now ≡ length first → EachList (ListTaken file rules) first now
    → map (left_seen file rules) now ≡ behind_file rules.unit (map (left_seen file rules) first)
lefts_behind file rules [] [] long each = refl
lefts_behind file rules [] (b ∷ now) long each = absurd (omega (arith, long))
lefts_behind file rules (a ∷ first) [] long each = absurd (omega (arith, long))
lefts_behind file rules (a ∷ first) (b ∷ now) long each =
    ap (λ (xs : List Keyed). xs ∷ map (left_seen file rules) now) (each 0 a (omega arith)).left
    ∙ ap (λ (xss : List (List Keyed)). rest rules.unit (left_seen file rules a) ∷ xss) (lefts_behind file rules first now (omega (arith, long)) (each_tail (ListTaken file rules) a b first now each))

bads_same : (file : List ℕ) (rules : Rules) (first now : List ListSeen) → rules.repeat ≡ true → length now ≡ length first → EachList (ListTaken file rules) first now
    → filter_map (bad_seen file rules) now ≡ filter_map (bad_seen file rules) first
bads_same file rules [] [] again long each = refl
bads_same file rules [] (b ∷ now) again long each = absurd (omega (arith, long))
bads_same file rules (a ∷ first) [] again long each = absurd (omega (arith, long))
bads_same file rules (a ∷ first) (b ∷ now) again long each =
    ap (λ (o : Option CutPlace). cons_option o (filter_map (bad_seen file rules) now)) ((each 0 a (omega arith)).bad again)
    ∙ ap (cons_option (bad_seen file rules a)) (bads_same file rules first now again (omega (arith, long)) (each_tail (ListTaken file rules) a b first now each))

-- WHOSE ITEMS THEY ARE

own_whole : (file : List ℕ) (rules : Rules) (first : List ListSeen) (k : ℕ) (e : ListSeen) → AreGroups false first → k < length first
    → next_file rules.unit (left_in_rows rules.stop (rows_of file (lanes_of first)) ∷ []) ≡ piece rules.unit (left_seen file rules (get_or first k e))
own_whole file rules [] k e g lt = absurd (omega (arith, lt))
own_whole file rules (x ∷ y ∷ first) k e g lt = absurd (omega (arith, g))
own_whole file rules (x ∷ []) (suc k) e g lt = absurd (omega (arith, lt))
own_whole file rules (x ∷ []) zero e g lt =
    append-nil (piece rules.unit (left_in_rows rules.stop (rows_of file (x.all ++ []))))
    ∙ ap (λ (ls : List Lane). piece rules.unit (left_in_rows rules.stop (rows_of file ls))) (append-nil x.all)

single_length : (first : List ListSeen) → AreGroups true first → length (lanes_of first) ≡ length first
single_length [] g = refl
single_length (x ∷ first) g =
    let one : length x.all ≡ 1 = All-head (λ (y : ListSeen). length y.all ≡ 1) x first g in
    let more = single_length first (All-tail (λ (y : ListSeen). length y.all ≡ 1) x first g) in
    omega (arith, length-append x.all (lanes_of first), one, more)

own_single : (file : List ℕ) (rules : Rules) (first : List ListSeen) (k i : ℕ) (e : ListSeen) (d : Lane) → CpusRise (parts_of (lanes_of first)) → AreGroups true first → k < length first → i < length (get_or first k e).all
    → items_of_cpu (get_or (get_or first k e).all i d).cpu (next_file rules.unit (map (left_in_rows rules.stop) (map single (rows_of file (lanes_of first)))))
    ≡ items_of_cpu (get_or (get_or first k e).all i d).cpu (piece rules.unit (left_seen file rules (get_or first k e)))
own_single file rules first k i e d rise g lt lt2 =
    let at = single_at first k i e d g lt lt2 in
    let a = get_or (get_or first k e).all i d in
    let all = next_file rules.unit (map (left_in_rows rules.stop) (map single (rows_of file (lanes_of first)))) in
    ap (λ (b : Lane). items_of_cpu b.cpu all) (sym at.0)
    ∙ own_apart file rules.unit rules.stop (lanes_of first) k d rise (omega (arith, lt, single_length first g))
    ∙ ap (λ (b : Lane). items_of_cpu b.cpu (piece rules.unit (left_in_rows rules.stop (row_of file b ∷ [])))) at.0
    ∙ ap (λ (ls : List Lane). items_of_cpu a.cpu (piece rules.unit (left_in_rows rules.stop (rows_of file ls)))) (sym at.1)

own_in : (file : List ℕ) (rules : Rules) (first : List ListSeen) (k i : ℕ) (e : ListSeen) (d : Lane) → CpusRise (parts_of (lanes_of first)) → AreGroups (is_apart rules) first → k < length first → i < length (get_or first k e).all
    → items_of_cpu (get_or (get_or first k e).all i d).cpu (taken_of file rules (lanes_of first))
    ≡ items_of_cpu (get_or (get_or first k e).all i d).cpu (piece rules.unit (left_seen file rules (get_or first k e)))
own_in file rules first k i e d rise g lt lt2 = by_group (is_apart rules) g
  where
    by_group : (b : Bool) → AreGroups b first
        → items_of_cpu (get_or (get_or first k e).all i d).cpu (next_file rules.unit (map (left_in_rows rules.stop) (if b then map single (rows_of file (lanes_of first)) else rows_of file (lanes_of first) ∷ [])))
        ≡ items_of_cpu (get_or (get_or first k e).all i d).cpu (piece rules.unit (left_seen file rules (get_or first k e)))
    by_group true g = own_single file rules first k i e d rise g lt lt2
    by_group false g = ap (items_of_cpu (get_or (get_or first k e).all i d).cpu) (own_whole file rules first k e g lt)

pub all_measured : (file : List ℕ) (rules : Rules) (n : ℕ) (first now : List ListSeen) (ends : Ends) → AreGroups (is_apart rules) first → CpusRise (parts_of (lanes_of first)) → length now ≡ length first → EachList ListGoes first now → length first ≤ n
    → MeasuredTo file rules n first now ends → FileMeasured file rules first now ends
all_measured file rules n first now ends g rise long goes enough s =
    let h = left_seen file rules in
    let each : EachList (ListTaken file rules) first now = λ j d lt. s.each j d (omega (arith, lt, enough)) in
    let now_all : take n now ≡ now = take_all n now (omega (arith, long, enough)) in
    let first_all : take n first ≡ first = take_all n first enough in
    let lefts = left_of_lists file rules first g in
    let g2 = groups_stay (is_apart rules) first now long goes g in
    let lefts_now = left_of_lists file rules now g2 in
    record {
      left = record {
        stands = all_flat (Stands file) now (λ j d lt. (each j d (omega (arith, lt, long))).passed.stands);
        left = lefts_now ∙ lefts_behind file rules first now long each ∙ ap (behind_file rules.unit) (sym lefts);
        more = s.more ∙ ap (λ (xs : List ListSeen). is_some_left (joined_lists (map h xs))) now_all ∙ ap (λ (xss : List (List Keyed)). is_some_left (joined_lists xss)) (sym lefts_now);
        bad_ends = λ last. s.bad last ∙ ap (first_bad_seen file rules) first_all ∙ sym (bad_of_lists file rules first g);
        bad = λ again. bad_of_lists file rules now g2 ∙ ap (λ (bads : List CutPlace). slice_get bads 0) (bads_same file rules first now again long each) ∙ sym (bad_of_lists file rules first g);
      };
      lefts = λ k e lt i d lt2.
          let p = each k e lt in
          let a = get_or (get_or first k e).all i d in
          let b = get_or (get_or now k e).all i d in
          p.passed.lefts i d lt2
          ∙ ap (λ (ts : List Keyed). items_of_cpu a.cpu ts ++ left_of file b) p.piece
          ∙ ap (λ (xs : List ItemData). xs ++ left_of file b) (sym (own_in file rules first k i e d rise g lt lt2));
      tallied = λ k e lt i d t lt2.
          let p = each k e lt in
          let a = get_or (get_or first k e).all i d in
          subst (IsTally a.layout (get_or (get_or now k e).tallies i t)) (ap (items_of_cpu a.cpu) p.piece ∙ sym (own_in file rules first k i e d rise g lt lt2)) (p.tallied i d t lt2);
    }
