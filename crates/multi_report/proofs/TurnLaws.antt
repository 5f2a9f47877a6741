-- One turn of a report of several files.
use Rattle.std.proofs.Common.{◌≡◌, ℕ, ◌<◌, ◌≤◌, List, [], ◌∷◌, length, get_or, set, map, Option, Some, None, Result, Ok, Err, sym, ap, subst, ◌∙◌, arith, inl, inr, sum_by, get_or-set_same, get_or-set_other}
use Rattle.std.specs.List.{All}
use Rattle.std.proofs.lemmas.Bool.{cases_eq}
use Rattle.std.proofs.lemmas.List.{length-map, length-set, map-set}
use Rattle.std.proofs.lemmas.List.Elements.{All-get_or, All-set}
use Rattle.std.proofs.lemmas.List.Sums.{sum_by-set, get_or-le-sum_by}
use Rattle.std.proofs.Math.Seq.{map-set_same}
use Rattle.trace_outside.specs.Pending.{OnWay}
use Rattle.trace_outside.specs.Writing.{Gained, GainedPrefix}
use Rattle.trace_outside.specs.Pieces.{text_of}
use Rattle.subpage.specs.Arrangement.{Keyed, key_of, cpu_of}
use Rattle.subpage.specs.declared.cut_place.CutPlace.{CutPlace}
use Rattle.subpage.specs.CutPlaces.{cut_at}
use Rattle.subpage.specs.Cut.{Cut}
use Rattle.time_merge.specs.Rows.{bound_of}
use Rattle.time_merge.specs.Nexts.{IsLeastOf, IsLeastAt}
use Rattle.tournament_tree.specs.declared.slot_key.SlotKey.{SlotKey}
use Rattle.tournament_tree.specs.declared.slot_key.SlotKey.TheVariants.{Empty}
use Rattle.tournament_tree.specs.Least.{from_time}
use Rattle.tournament_tree.proofs.Ranks.{never_empty}
use Rattle.time_merge.specs.declared.ending.IoFault.{IoFault}
use Rattle.time_merge.specs.declared.ending.IoFault.TheVariants as io
use Rattle.multi_report.specs.declared.report.FilesEnd.TheVariants as code
use Rattle.multi_report.specs.declared.report.FilesFault.{FilesFault}
use Rattle.multi_report.specs.declared.report.FilesFault.TheVariants as fault
use Rattle.multi_report.specs.declared.taking.Taken.{Taken}
use Rattle.multi_report.specs.declared.taking.Taken.TheVariants as took
use Rattle.multi_report.specs.Order.{ShownFile, cut_in, in_file, cut_of_files}
use Rattle.multi_report.specs.Sources.{SourceView, IsKnown, IsPrepared, IsSame, due, shown_of, next_key, to_come_of, work, cut_left}
use Rattle.multi_report.specs.Reports.{AreSame, IsEnded, WriteRose, line_in, line_of, lines}
use Rattle.multi_report.specs.Taking.{ItemTaken, TakenFrom}
use Rattle.multi_report.specs.Turns.{AreReadied, Going, IsUnderway, lines_left, state_of}
use Rattle.multi_report.proofs.FileRows.{file_next, file_cut, file_first, file_none, file_some}
use Rattle.multi_report.proofs.OwnLayouts.{known_own}
use Rattle.multi_report.proofs.Files.{no_cut, one_cut_is, same_one}
use Rattle.multi_report.proofs.Going.{end_read, line_at, put_one, put_stopped, waiting_stopped, whole_gained}

some_seen : (xs : List SourceView) (j : ℕ) → j < length xs → SourceView
some_seen [] j lt = absurd (omega (arith, lt))
some_seen (x ∷ xs) j lt = x

-- a slot of the tree is a file
pub slot_of : {S : Type 0} (f : S → SourceView) (xs : List S) (keys : List SlotKey) (j : ℕ) → j < length keys → length keys ≡ length xs → j < length (map f xs)
slot_of f xs keys j lt slots = omega (arith, lt, slots, length-map xs f)

-- a count that rose since a turn began rose since the report began
pub rose_from : (why : FilesFault) (first before now : ℕ) → first ≤ before → WriteRose why before now → WriteRose why first now
rose_from (fault.Read file) first before now le rose = tt
rose_from fault.Write first before now le rose = omega (arith, le, rose)

none_left : (sources : List SourceView) → to_come_of sources ≡ [] → lines_left sources ≡ []
unfolding lines
none_left sources e = ap (map (line_in (map shown_of sources))) e

-- nothing comes of any file
pub turn_done : (before : Option (List ℕ)) (whole : List (List ℕ)) (sources : List SourceView) (keys : List SlotKey) (old new : Option (List ℕ)) (waiting : List ℕ)
    → IsLeastAt keys None → Gained old new waiting
    → IsUnderway before whole (state_of sources keys old waiting) → IsEnded whole (cut_of_files (map shown_of sources)) before new (Ok code.Done)
turn_done before whole sources keys old new waiting none gained under =
    let law = file_none sources (subst (λ (ks : List SlotKey). IsLeastAt ks None) under.keys_are none) in (
      whole_gained before whole old new waiting (lines_left sources) gained under.going (none_left sources law.0),
      no_cut sources (known_own sources under.known) law.1,
    )

-- and what waited could not be written
pub done_stopped : (before : Option (List ℕ)) (whole : List (List ℕ)) (sources : List SourceView) (keys : List SlotKey) (old new : Option (List ℕ)) (waiting : List ℕ)
    → GainedPrefix old new waiting → IsUnderway before whole (state_of sources keys old waiting) → GainedPrefix before new (text_of whole)
done_stopped before whole sources keys old new waiting stopped under = waiting_stopped before whole old new waiting (lines_left sources) stopped under.going

-- One of several files changed, and the others are as they were.
module _ (sources : List SourceView) (j : ℕ) (lt : j < length sources) (way way_now : OnWay) where
  one_or_same : (R : SourceView → SourceView → Type 0) (one : SourceView) → ((e : SourceView) → R (get_or sources j e) one) → ((s : SourceView) → R s s) → (i : ℕ) (e : SourceView) → R (get_or sources i e) (get_or (set sources j one) i e)
  one_or_same R one here self i e = elim (cases_eq i j) as (λ _. R (get_or sources i e) (get_or (set sources j one) i e)) [
    | inl same ↦
        let at : R (get_or sources j e) (get_or (set sources j one) j e) = subst (R (get_or sources j e)) (sym (get_or-set_same sources j one e lt)) (here e) in
        subst (λ (k : ℕ). R (get_or sources k e) (get_or (set sources j one) k e)) (sym same) at
    | inr other ↦ subst (R (get_or sources i e)) (sym (get_or-set_other sources j i one e other)) (self (get_or sources i e))
  ]

  pub same_taken : (now : List SourceView) (result : Result Taken IoFault) → TakenFrom sources j way result now way_now → AreSame sources now
  same_taken now result from = subst (AreSame sources) (sym from.set) (record {
    count = length-set sources j from.one;
    each = λ i e inside. one_or_same IsSame from.one (λ x. (from.is x).same) same_one i e;
  })

  pub taken_as : (now : List SourceView) (result same : Result Taken IoFault) → result ≡ same → TakenFrom sources j way result now way_now → TakenFrom sources j way same now way_now
  taken_as now result same is from = subst (λ (r : Result Taken IoFault). TakenFrom sources j way r now way_now) is from

  pub readied_taken : (now : List SourceView) (key : SlotKey) → All IsPrepared sources → TakenFrom sources j way (Ok (took.Item key)) now way_now → AreReadied sources now
  readied_taken now key prepared from =
      let goes = (from.is (some_seen sources j lt)).goes in
      subst (AreReadied sources) (sym from.set) (record {
        prepared = All-set IsPrepared sources j from.one goes.readied.prepared prepared;
        due = λ i e inside. one_or_same (λ a b. due b ≤ due a) from.one (λ x. (from.is x).goes.readied.due) (λ s. omega arith) i e;
      })

  pub less_taken : (now : List SourceView) (key : SlotKey) → TakenFrom sources j way (Ok (took.Item key)) now way_now → sum_by work now < sum_by work sources
  less_taken now key from =
      let d = some_seen sources j lt in
      let same : sum_by work now ≡ sum_by work (set sources j from.one) = ap (sum_by work) from.set in
      omega (arith, same, sum_by-set work sources j from.one d lt, (from.is d).goes.less, get_or-le-sum_by work sources j d lt)

module _ (before : Option (List ℕ)) (whole : List (List ℕ)) (sources : List SourceView) (keys : List SlotKey) (j : ℕ) (lt : j < length sources) (way way_now : OnWay) where
  abbrev d : SourceView
  d = some_seen sources j lt

  same_givens : (one : SourceView) → shown_of one ≡ shown_of (get_or sources j d) → map shown_of (set sources j one) ≡ map shown_of sources
  same_givens one e = map-set_same shown_of sources j one d e

  -- the keys are those of what comes next of each file
  least_here : (here : Option ℕ) → IsLeastOf keys j here → IsUnderway before whole (state_of sources keys way.written way.waiting) → IsLeastOf (map next_key sources) j here
  least_here here least under = subst (λ (ks : List SlotKey). IsLeastOf ks j here) under.keys_are least

  one_known : IsUnderway before whole (state_of sources keys way.written way.waiting) → IsKnown (get_or sources j d)
  one_known under = All-get_or IsKnown sources j d lt under.known

  -- the line of an item is on its way, and the others are left
  going_one : (one : SourceView) (here : Option ℕ) → IsLeastOf keys j here → IsUnderway before whole (state_of sources keys way.written way.waiting)
      → shown_of one ≡ shown_of (get_or sources j d) → ItemTaken (get_or sources j d) one way way_now
      → Going before whole way_now.written way_now.waiting (lines_left (set sources j one))
  unfolding lines
  going_one one here least under shown t =
      let after = set sources j one in
      let come : to_come_of sources ≡ in_file j t.item ∷ to_come_of after = file_next sources j here d one t.item lt (least_here here least under) t.come t.cut in
      let all_shown : map shown_of after ≡ map shown_of sources = same_givens one shown in
      let piece : List ℕ = line_of (shown_of (get_or sources j d)) t.item in
      let rest : lines_left sources ≡ piece ∷ lines_left after =
      ap (map (line_in (map shown_of sources))) come
      ∙ ap (λ (p : List ℕ). p ∷ map (line_in (map shown_of sources)) (to_come_of after)) (line_at sources j d t.item lt)
      ∙ ap (λ (gs : List ShownFile). piece ∷ map (line_in gs) (to_come_of after)) (sym all_shown) in
      put_one before whole way.written way_now.written way.waiting way_now.waiting piece (lines_left after) t.puts (subst (Going before whole way.written way.waiting) rest under.going)

  -- nothing was put
  going_still : way_now ≡ way → IsUnderway before whole (state_of sources keys way.written way.waiting) → Going before whole way_now.written way_now.waiting (lines_left sources)
  going_still still under = subst (λ (w : OnWay). Going before whole w.written w.waiting (lines_left sources)) (sym still) under.going

  -- an item was taken
  pub turn_item : (now : List SourceView) (here : Option ℕ) (key : SlotKey) → IsLeastOf keys j here → TakenFrom sources j way (Ok (took.Item key)) now way_now
      → IsUnderway before whole (state_of sources keys way.written way.waiting) → IsUnderway before whole (state_of now (set keys j key) way_now.written way_now.waiting)
  turn_item now here key least from under =
      let is = from.is d in
      let t = is.taken (one_known under) in
      let same_keys : set keys j key ≡ map next_key (set sources j from.one) =
      ap (λ (ks : List SlotKey). set ks j key) under.keys_are ∙ ap (set (map next_key sources) j) t.1 ∙ sym (map-set next_key sources j from.one) in
      subst (λ (ss : List SourceView). IsUnderway before whole (state_of ss (set keys j key) way_now.written way_now.waiting)) (sym from.set) (record {
        known = All-set IsKnown sources j from.one t.0.known under.known;
        keys_are = same_keys;
        going = going_one from.one here least under is.same.shown t.0;
      })

  -- an item was taken, and then a read failed
  pub turn_read : (now : List SourceView) (here : Option ℕ) (new : Option (List ℕ)) → IsLeastOf keys j here → TakenFrom sources j way (Err io.Read) now way_now
      → Gained way_now.written new way_now.waiting
      → IsUnderway before whole (state_of sources keys way.written way.waiting) → IsEnded whole (cut_of_files (map shown_of now)) before new (Err (fault.Read j))
  turn_read now here new least from gained under =
      let is = from.is d in
      end_read before whole (cut_of_files (map shown_of now)) way_now.written new way_now.waiting (lines_left (set sources j from.one)) j gained
      (going_one from.one here least under is.same.shown (is.taken (one_known under)))

  -- and what waited could not be written
  pub read_stopped : (now : List SourceView) (here : Option ℕ) (new : Option (List ℕ)) → IsLeastOf keys j here → TakenFrom sources j way (Err io.Read) now way_now
      → GainedPrefix way_now.written new way_now.waiting
      → IsUnderway before whole (state_of sources keys way.written way.waiting) → GainedPrefix before new (text_of whole)
  read_stopped now here new least from stopped under =
      let is = from.is d in
      waiting_stopped before whole way_now.written new way_now.waiting (lines_left (set sources j from.one)) stopped
      (going_one from.one here least under is.same.shown (is.taken (one_known under)))

  -- its line could not be written
  pub turn_stopped : (now : List SourceView) (here : Option ℕ) → IsLeastOf keys j here → TakenFrom sources j way (Err io.Write) now way_now
      → IsUnderway before whole (state_of sources keys way.written way.waiting) → GainedPrefix before way_now.written (text_of whole)
  unfolding lines
  turn_stopped now here least from under =
      let t = (from.is d).taken (one_known under) in
      let s = get_or sources j d in
      let first = file_first sources j here d t.item t.rest lt (least_here here least under) t.come in
      let rest : lines_left sources ≡ line_of (shown_of s) t.item ∷ map (line_in (map shown_of sources)) first.0 =
      ap (map (line_in (map shown_of sources))) first.1 ∙ ap (λ (p : List ℕ). p ∷ map (line_in (map shown_of sources)) first.0) (line_at sources j d t.item lt) in
      put_stopped before whole way.written way_now.written way.waiting (line_of (shown_of s) t.item) (map (line_in (map shown_of sources)) first.0) t.puts
      (subst (Going before whole way.written way.waiting) rest under.going)

  -- the cut of a file
  pub turn_cut : (now : List SourceView) (here : Option ℕ) (place : CutPlace) (new : Option (List ℕ)) → IsLeastOf keys j here
      → TakenFrom sources j way (Ok (took.Cut place)) now way_now → Gained way_now.written new way_now.waiting
      → IsUnderway before whole (state_of sources keys way.written way.waiting) → IsEnded whole (cut_of_files (map shown_of now)) before new (Ok (code.Malformed j place))
  turn_cut now here place new least from gained under =
      let is = from.is d in
      let t = is.taken (one_known under) in
      let cut : Cut = cut_at t.1.0 place in
      let law = file_cut sources j here d cut lt (least_here here least under) t.0.none t.1.1 in
      let found : cut_of_files (map shown_of sources) ≡ Some (cut_in j cut) = one_cut_is sources j d cut (known_own sources under.known) lt law.1 t.1.1 in
      let all_shown : map shown_of now ≡ map shown_of sources = ap (map shown_of) from.set ∙ same_givens from.one is.same.shown in
      subst (λ (gs : List ShownFile). IsEnded whole (cut_of_files gs) before new (Ok (code.Malformed j place))) (sym all_shown) (
        whole_gained before whole way_now.written new way_now.waiting (lines_left sources) gained (going_still t.0.nothing_put under) (none_left sources law.0),
        (t.1.0, found),
      )

  -- and what waited could not be written
  pub cut_stopped : (now : List SourceView) (place : CutPlace) (new : Option (List ℕ)) → TakenFrom sources j way (Ok (took.Cut place)) now way_now
      → GainedPrefix way_now.written new way_now.waiting
      → IsUnderway before whole (state_of sources keys way.written way.waiting) → GainedPrefix before new (text_of whole)
  cut_stopped now place new from stopped under =
      let t = (from.is d).taken (one_known under) in
      waiting_stopped before whole way_now.written new way_now.waiting (lines_left sources) stopped (going_still t.0.nothing_put under)

  -- nothing is left of the file of which the least comes next: that is not so
  pub turn_nothing : (now : List SourceView) (here : Option ℕ) → IsLeastOf keys j here → TakenFrom sources j way (Ok took.Done) now way_now
      → IsUnderway before whole (state_of sources keys way.written way.waiting) → ⊥
  turn_nothing now here least from under =
      let s = get_or sources j d in
      let t = (from.is d).taken (one_known under) in
      let some : next_key s ≡ from_time here = file_some sources j here d lt (least_here here least under) in
      let none : next_key s ≡ Empty = ap (λ (xs : List Keyed). bound_of key_of cpu_of xs (cut_left s)) t.0.none ∙ ap (bound_of key_of cpu_of []) t.1 in
      never_empty here (sym some ∙ none)
