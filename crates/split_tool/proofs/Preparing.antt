-- A file between its two passes.
use Rattle.std.proofs.Common.{◌≡◌, ℕ, ◌%◌, ◌^◌, ◌<◌, List, [], ◌∷◌, ◌++◌, length, get_or, map, Option, Some, None, Result, Ok, Err, refl, sym, ap, subst, ◌∙◌, arith}
use Rattle.std.specs.Option.{IfSome}
use Rattle.std.specs.Prelude.{IfErr, OnOk}
use Rattle.std.specs.List.{All, filter_map, slice_get}
use Rattle.std.proofs.lemmas.List.{length-append, length-map, get_or-map}
use Rattle.std.proofs.lemmas.List.Elements.{All-cons, All-get_or, All-head, All-nil, All-tail}
use Rattle.trace_base.specs.declared.layout.Layout.{Layout}
use Rattle.trace_base.specs.declared.part.Part.{Part}
use Rattle.trace_outside.specs.Writing.{Gained}
use Rattle.trace_outside.proofs.Gains.{gained_both}
use Rattle.dat_header.specs.declared.header.Header.{Header}
use Rattle.dat_header.specs.Allowed.{IsHeader}
use Rattle.trace_base.proofs.Layouts.{carried}
use Rattle.subpage.specs.ItemData.{ItemData}
use Rattle.subpage.specs.Arrangement.{Keyed, CpusRise}
use Rattle.subpage.specs.Processor.{list_of}
use Rattle.page_pool.specs.declared.lane.Lane.{Lane}
use Rattle.page_pool.proofs.Keeping.{by_both}
use Rattle.page_pool.specs.declared.cursor.LaneState.TheVariants.{Held}
use Rattle.page_write.specs.Placed.{parts_from, data_of}
use Rattle.event_cursor.specs.Standing.{Stands, left_of}
use Rattle.event_cursor.specs.Places.{IsPlace, place_in, left_behind}
use Rattle.event_cursor.specs.declared.places.Place.{Place}
use Rattle.event_cursor.proofs.Returning.{is_place, left_is_behind}
use Rattle.time_merge.specs.Rows.{Row}
use Rattle.time_merge.specs.LaneRows.{HasLayout, parts_of, rows_of, IsReady}
use Rattle.time_merge.specs.declared.ending.End.{End}
use Rattle.time_merge.specs.declared.ending.End.TheVariants as code
use Rattle.time_merge.specs.declared.ending.IoFault.{IoFault}
use Rattle.split_pieces.specs.declared.rules.Rules.{Rules}
use Rattle.split_pieces.specs.Cuts.{items_of_cpu}
use Rattle.split_pieces.specs.Pieces.{is_some_left, joined_lists, next_file, behind_file}
use Rattle.split_passes.specs.ListSeen.{ListSeen}
use Rattle.split_passes.specs.declared.tally.Tally.{Tally}
use Rattle.split_passes.specs.Tallies.{IsTally}
use Rattle.split_passes.specs.Measures.{Tallied}
use Rattle.split_passes.specs.Again.{IsFront}
use Rattle.split_passes.specs.AllAgain.{AreFronts, owns, IsPackedAll}
use Rattle.time_merge.proofs.Advancing.{same_length}
use Rattle.split_passes.proofs.Running.{same_cpu}
use Rattle.split_tool.specs.NewFile.{front_len, front_text, table_of}
use Rattle.split_tool.specs.declared.lists.Ends.{Ends}
use Rattle.split_tool.specs.Counted.{lists_of, AreCounted}
use Rattle.split_tool.specs.Going.{ListBegun, ListDone, ListGoes, StaysToCome}
use Rattle.split_tool.specs.Lists.{EachList, groups, lanes_of, left_in_rows, bad_in_rows, lists_left, bad_left}
use Rattle.split_tool.specs.Work.{AreLists}
use Rattle.split_tool.proofs.Flat.{flat_all, go_layouts, parts_flat}
use Rattle.split_tool.specs.Measured.{taken_of, FileLeft, FileMeasured}
use Rattle.split_tool.specs.Made.{Prepared, IsWritten}
use Rattle.split_tool.specs.Unmaking.{IsMadeBy, ending_of}
use Rattle.split_tool.specs.declared.unmade.Unmade.{Unmade}
use Rattle.split_tool.specs.declared.unmade.Unmade.TheVariants as unmade
use Rattle.split_tool.proofs.FewItems.{few_in_list}
use Rattle.split_tool.proofs.Owning.{IsNotLane, none_else}
use Rattle.split_tool.proofs.Tables.{same_data}
use Rattle.split_passes.proofs.PieceLaws.{holds_some, same_part}

-- FRONTS

-- no processor's items are more than a tally counts
abbrev pub FewEach : List Lane → List Keyed → Type 0
FewEach lanes taken = (i : ℕ) (d : Lane) → i < length lanes → length (items_of_cpu (get_or lanes i d).cpu taken) < 2 ^ 63

few_each : (file : List ℕ) (first now : List Lane) (taken : List Keyed) → length file < 2 ^ 64 → All (Stands file) first
    → ((i : ℕ) (d : Lane) → i < length first → left_of file (get_or first i d) ≡ items_of_cpu (get_or first i d).cpu taken ++ left_of file (get_or now i d)) → FewEach first taken
few_each file first now taken small stands lefts i d lt =
    let a = get_or first i d in
    let b = get_or now i d in
    let s = All-get_or (Stands file) first i d lt stands in
    let own : length (left_of file a) ≡ length (items_of_cpu a.cpu taken ++ left_of file b) = ap length (lefts i d lt) in
    let whole : length (list_of a.layout file a.part) ≡ length (s.used ++ left_of file a) = ap length s.parted in
    omega (arith, few_in_list a.layout file a.part (carried a.layout), whole, length-append s.used (left_of file a), own, length-append (items_of_cpu a.cpu taken) (left_of file b), small)

fronts_all : (file : List ℕ) (first now : List Lane) (fronts : List Place) (tallies : List Tally) (taken : List Keyed) → ((i : ℕ) (d : Lane) → i < length first → (get_or now i d).layout ≡ (get_or first i d).layout) → All IsReady first → All (Stands file) first
    → parts_of now ≡ parts_of first → ((i : ℕ) (d : Lane) (p : Place) → i < length first → get_or fronts i p ≡ place_in (get_or first i d))
    → ((i : ℕ) (d : Lane) → i < length first → left_of file (get_or first i d) ≡ items_of_cpu (get_or first i d).cpu taken ++ left_of file (get_or now i d))
    → Tallied first taken tallies → FewEach first taken → AreFronts file now fronts tallies (owns first taken)
fronts_all file first now fronts tallies taken layouts ready stands parts noted lefts tallied few =
    let same : length now ≡ length first = same_length now first parts in
    record {
      long = length-map first (λ (a : Lane). items_of_cpu a.cpu taken) ∙ sym same;
      each = λ i d p t lt0.
          let lt : i < length first = omega (arith, same, lt0) in
          let a = get_or first i d in
          let b = get_or now i d in
          let list : get_or (owns first taken) i [] ≡ items_of_cpu a.cpu taken = get_or-map (λ (x : Lane). items_of_cpu x.cpu taken) first i d [] lt in
          let count : (get_or tallies i t).items ≡ length (items_of_cpu a.cpu taken) = (tallied i d t lt (few i d lt)).count in
          let part : b.part ≡ a.part = same_part now first i d lt0 lt parts in
          let s = All-get_or (Stands file) first i d lt stands in
          let layout : b.layout ≡ a.layout = layouts i d lt in
          let left : left_of file a ≡ items_of_cpu a.cpu taken ++ left_of file b = lefts i d lt in
          let held : 0 < (get_or tallies i t).items → a.cursor.state ≡ Held = λ some. holds_some file a (items_of_cpu a.cpu taken) (left_of file b) (All-get_or IsReady first i d lt ready) s left (omega (arith, count, some)) in
          let front : IsFront file b (place_in a) (get_or tallies i t).items (items_of_cpu a.cpu taken) = record {
            long = sym count;
            place = λ some. subst (λ (k : Layout). IsPlace k file b.part (place_in a)) (sym layout) (subst (λ (q : Part). IsPlace a.layout file q (place_in a)) (sym part) (is_place file a s (held some)));
            left = λ some. by_both (λ k q. left_behind k file q (place_in a)) layout part ∙ sym (left_is_behind file a s (held some)) ∙ left;
          } in
          subst (λ (xs : List ItemData). IsFront file b (get_or fronts i p) (get_or tallies i t).items xs) (sym list)
          (subst (λ (x : Place). IsFront file b x (get_or tallies i t).items (items_of_cpu a.cpu taken)) (sym (noted i d p lt)) front);
    }

-- COUNTS

abbrev pub first_cpu : List (ℕ × Part) → ℕ
first_cpu [] = 0
first_cpu (p ∷ parts) = p.0

abbrev pub other_parts : List (ℕ × Part) → List (ℕ × Part)
other_parts [] = []
other_parts (p ∷ parts) = parts

other_lanes : (c : ℕ) (now first : List Lane) → parts_of now ≡ parts_of first → All (IsNotLane c) now → All (IsNotLane c) first
other_lanes c now first e a i d lt is =
    let inside : i < length now = omega (arith, lt, same_length now first e) in
    a i d inside (same_cpu now first i d inside lt e ∙ is)

module _ (l : Layout) (file : List ℕ) (rules : Rules) (first now : List ListSeen) (layouts : All (HasLayout l) (lanes_of first)) (long : length now ≡ length first) (goes : EachList ListGoes first now) where
  counted : EachList (λ before after. Tallied before.all (taken_of file rules (lanes_of first)) after.tallies) first now → ((k : ℕ) (e : ListSeen) → k < length first → FewEach (get_or first k e).all (taken_of file rules (lanes_of first)))
      → AreCounted l now (taken_of file rules (lanes_of first))
  counted tallied few =
      let taken = taken_of file rules (lanes_of first) in
      record {
        tallied = λ k e lt i d t lt2.
            let inside : k < length first = omega (arith, lt, long) in
            let a = get_or first k e in
            let b = get_or now k e in
            let parts = (goes k e inside).parts in
            let same : length b.all ≡ length a.all = same_length b.all a.all parts in
            let lt3 : i < length a.all = omega (arith, same, lt2) in
            let cpu : (get_or b.all i d).cpu ≡ (get_or a.all i d).cpu = same_cpu b.all a.all i d lt2 lt3 parts in
            subst (λ (c : ℕ). (length (items_of_cpu c taken) < 2 ^ 63) × IsTally l (get_or b.tallies i t) (items_of_cpu c taken)) (sym cpu)
            (few k e inside i d lt3, subst (λ (m : Layout). IsTally m (get_or b.tallies i t) (items_of_cpu (get_or a.all i d).cpu taken)) (flat_all (HasLayout l) first layouts k e inside i d lt3) (tallied k e inside i d t lt3));
        none_else = λ c others. none_else file rules (lanes_of first) c (other_lanes c (lanes_of now) (lanes_of first) (parts_flat first now long goes) others);
      }

-- lanes of the same processors
pub same_cpus : (n : ℕ) (first now : List Lane) → parts_of now ≡ parts_of first → All (λ (a : Lane). a.cpu < n) first → All (λ (a : Lane). a.cpu < n) now
same_cpus n [] [] e a = All-nil (λ (x : Lane). x.cpu < n)
same_cpus n [] (b ∷ now) e a = absurd cc
same_cpus n (f ∷ first) [] e a = absurd cc
same_cpus n (f ∷ first) (b ∷ now) e a =
    let cpu : b.cpu ≡ f.cpu = ap first_cpu e in
    let more : parts_of now ≡ parts_of first = ap other_parts e in
    let lt : f.cpu < n = All-head (λ (x : Lane). x.cpu < n) f first a in
    All-cons (λ (x : Lane). x.cpu < n) b now (omega (arith, cpu, lt)) (same_cpus n first now more (All-tail (λ (x : Lane). x.cpu < n) f first a))

-- THE WHOLE

by_parts : (lanes : List Lane) (taken : List Keyed) → owns lanes taken ≡ map (λ (p : ℕ × Part). items_of_cpu p.0 taken) (parts_of lanes)
by_parts [] taken = refl
by_parts (a ∷ lanes) taken = ap (λ (t : List (List ItemData)). items_of_cpu a.cpu taken ∷ t) (by_parts lanes taken)

same_owns : (ks bs : List Lane) (taken : List Keyed) → parts_of ks ≡ parts_of bs → owns ks taken ≡ owns bs taken
same_owns ks bs taken e = by_parts ks taken ∙ ap (map (λ (p : ℕ × Part). items_of_cpu p.0 taken)) e ∙ sym (by_parts bs taken)

pub same_lists : (file : List ℕ) (rules : Rules) (ks bs : List Lane) → rows_of file ks ≡ rows_of file bs → lists_left file rules ks ≡ lists_left file rules bs
same_lists file rules ks bs e = ap (λ (rows : List (Row Keyed)). map (left_in_rows rules.stop) (groups rules rows)) e

pub same_bad : (file : List ℕ) (rules : Rules) (ks bs : List Lane) → rows_of file ks ≡ rows_of file bs → bad_left file rules ks ≡ bad_left file rules bs
same_bad file rules ks bs e = ap (λ (rows : List (Row Keyed)). slice_get (filter_map (bad_in_rows rules) (groups rules rows)) 0) e

-- lanes that have the same left
pub left_still : (file : List ℕ) (rules : Rules) (first first1 now now1 : List Lane) (ends : Ends) → rows_of file first1 ≡ rows_of file first → rows_of file now1 ≡ rows_of file now → All (Stands file) now1
    → FileLeft file rules first1 now ends → FileLeft file rules first now1 ends
left_still file rules first first1 now now1 ends same same1 stands f = record {
  stands = stands;
  left = same_lists file rules now1 now same1 ∙ f.left ∙ ap (behind_file rules.unit) (same_lists file rules first1 first same);
  more = f.more ∙ ap (λ (xss : List (List Keyed)). is_some_left (joined_lists xss)) (sym (same_lists file rules now1 now same1));
  bad_ends = λ last. f.bad_ends last ∙ same_bad file rules first1 first same;
  bad = λ again. same_bad file rules now1 now same1 ∙ f.bad again ∙ same_bad file rules first1 first same;
}

data_all : (l : Layout) (file : List ℕ) (rules : Rules) (lanes : List Lane) (cpus : ℕ) → CpusRise (parts_of lanes) → All (λ (a : Lane). a.cpu < cpus) lanes
    → data_of l (owns lanes (taken_of file rules lanes)) ≡ data_of l (lists_of cpus (taken_of file rules lanes))
unfolding data_of
data_all l file rules lanes cpus rise below = same_data l (taken_of file rules lanes) cpus 0 lanes rise (λ i d lt. omega arith) (λ i d lt. omega (arith, below i d lt)) (λ c le others. none_else file rules lanes c others)

pub prepared : (header : Header) (file : List ℕ) (rules : Rules) (first ready now : List ListSeen) (table0 table : List Part) (at : ℕ) (ends : Ends)
    → IsHeader header → All (HasLayout header.layout) (lanes_of first) → AreLists rules header now → length ready ≡ length first → length now ≡ length ready → EachList ListGoes first ready → EachList ListGoes ready now
    → All ListBegun ready → EachList ListDone ready now
    → StaysToCome file (lanes_of first) (lanes_of ready)
    → at ≡ front_len header % 2 ^ 64 → length table0 ≡ header.cpus
    → ((xs : List Keyed) (place : ℕ) → at ≡ place % 2 ^ 64 → AreCounted header.layout now xs → table ≡ parts_from header.layout place (lists_of (length table0) xs))
    → length file < 2 ^ 64 → All (Stands file) (lanes_of first)
    → FileMeasured file rules ready now ends → Prepared header file rules first now table ends
unfolding table_of
prepared header file rules first ready now table0 table at ends allowed layouts lists long1 long2 goes1 goes2 begun done stays place cpus filled small stands0 m =
    let l = header.layout in
    let taken1 = taken_of file rules (lanes_of ready) in
    let taken = taken_of file rules (lanes_of first) in
    let same : taken1 ≡ taken = ap (next_file rules.unit) (same_lists file rules (lanes_of ready) (lanes_of first) stays.rows) in
    let stands = flat_all (Stands file) ready (stays.stands stands0) in
    let few : (k : ℕ) (e : ListSeen) → k < length ready → FewEach (get_or ready k e).all taken1 =
    λ k e lt. few_each file (get_or ready k e).all (get_or now k e).all taken1 small (stands k e lt) (m.lefts k e lt) in
    let count : AreCounted l now taken = subst (AreCounted l now) same (counted l file rules ready now (go_layouts l first ready long1 goes1 layouts) long2 goes2 m.tallied few) in
    let cpus_first : All (λ (a : Lane). a.cpu < header.cpus) (lanes_of now) = lists.cpus in
    record {
      left = left_still file rules (lanes_of first) (lanes_of ready) (lanes_of now) (lanes_of now) ends stays.rows refl m.left.stands m.left;
      fronts_are = λ k e lt.
          let inside : k < length ready = omega (arith, lt, long2) in
          let a = get_or ready k e in
          let b = get_or now k e in
          let goes = goes2 k e inside in
          let ready_here = begun k e inside in
          subst (AreFronts file b.all b.fronts b.tallies) (ap (owns a.all) same ∙ same_owns a.all b.all taken (sym goes.parts))
          (fronts_all file a.all b.all b.fronts b.tallies taken1 (λ i d lt2. (goes.advance i d lt2).layout) ready_here.begun.ready (stands k e inside) goes.parts
          (λ i d p lt2. ap (λ (ps : List Place). get_or ps i p) (done k e inside).fronts ∙ ready_here.begun.noted i d p lt2)
          (m.lefts k e inside) (m.tallied k e inside) (few k e inside));
      table_is = filled taken (front_len header) place count ∙ ap (λ (n : ℕ). parts_from l (front_len header) (lists_of n taken)) cpus;
      bytes = ap (data_of l) (same_owns (lanes_of now) (lanes_of first) taken (parts_flat ready now long2 goes2 ∙ parts_flat first ready long1 goes1))
          ∙ data_all l file rules (lanes_of first) header.cpus
          (subst CpusRise (parts_flat ready now long2 goes2 ∙ parts_flat first ready long1 goes1) lists.rise)
          (same_cpus header.cpus (lanes_of now) (lanes_of first) (sym (parts_flat ready now long2 goes2 ∙ parts_flat first ready long1 goes1)) lists.cpus);
    }

pub prepared_told : (header : Header) (rules : Rules) (first ready now : List ListSeen) (table0 table : List Part) (at : ℕ) (ends : Ends) (told now_told : Option (List ℕ)) → now_told ≡ told
    → IsHeader header → All (HasLayout header.layout) (lanes_of first) → AreLists rules header now → length ready ≡ length first → length now ≡ length ready → EachList ListGoes first ready → EachList ListGoes ready now
    → All ListBegun ready → EachList ListDone ready now
    → at ≡ front_len header % 2 ^ 64 → length table0 ≡ header.cpus
    → ((xs : List Keyed) (place : ℕ) → at ≡ place % 2 ^ 64 → AreCounted header.layout now xs → table ≡ parts_from header.layout place (lists_of (length table0) xs))
    → IfSome told (λ file. StaysToCome file (lanes_of first) (lanes_of ready))
    → IfSome now_told (λ file. All (Stands file) (lanes_of ready) → All ListBegun ready → FileMeasured file rules ready now ends)
    → IfSome told (λ file. All (Stands file) (lanes_of first) → length file < 2 ^ 64 → Prepared header file rules first now table ends)
prepared_told header rules first ready now table0 table at ends None now_told e allowed layouts lists long1 long2 goes1 goes2 begun done place cpus filled stays m = tt
prepared_told header rules first ready now table0 table at ends (Some file) now_told e allowed layouts lists long1 long2 goes1 goes2 begun done place cpus filled stays m = λ stands small.
    let measured = subst (λ (o : Option (List ℕ)). IfSome o (λ file. All (Stands file) (lanes_of ready) → All ListBegun ready → FileMeasured file rules ready now ends)) e m in
    prepared header file rules first ready now table0 table at ends allowed layouts lists long1 long2 goes1 goes2 begun done stays place cpus filled small stands (measured (stays.stands stands) begun)

-- with the table as it stands in the work
pub prepared_back : (header : Header) (rules : Rules) (first now : List ListSeen) (table table1 : List Part) (ends : Ends) (told : Option (List ℕ)) → table1 ≡ table
    → IfSome told (λ file. All (Stands file) (lanes_of first) → length file < 2 ^ 64 → Prepared header file rules first now table ends)
    → IfSome told (λ file. All (Stands file) (lanes_of first) → length file < 2 ^ 64 → Prepared header file rules first now table1 ends)
prepared_back header rules first now table table1 ends told is p =
    subst (λ (ps : List Part). IfSome told (λ file. All (Stands file) (lanes_of first) → length file < 2 ^ 64 → Prepared header file rules first now ps ends)) (sym is) p

-- WRITING

pub written_all : {T : Type 0} (header : Header) (file : List ℕ) (table : List Part) (lists : List (List ItemData)) (before now : List Lane) (old mid new : Option (List ℕ)) (end : Result End IoFault) (result : Result T Unmade) → IsMadeBy end result → Gained old mid (front_text header table)
    → IsPackedAll header.layout file lists (record { lanes = before; written = mid }) (record { lanes = now; written = new }) end
    → IsWritten header file table lists (record { lanes = before; written = old }) (record { lanes = now; written = new }) result
written_all header file table lists before now old mid new end (Ok done) is front packed =
    let p = subst (λ (e : Result End IoFault). IsPackedAll header.layout file lists (record { lanes = before; written = mid }) (record { lanes = now; written = new }) e) is packed in
    record { stands = p.stands; rows = p.rows; gained = gained_both old mid new (front_text header table) (data_of header.layout lists) front p.gained }
written_all header file table lists before now old mid new end (Err (unmade.Malformed cut)) is front packed =
    subst (λ (e : Result End IoFault). IsPackedAll header.layout file lists (record { lanes = before; written = mid }) (record { lanes = now; written = new }) e) is packed
written_all header file table lists before now old mid new end (Err (unmade.Fault fault)) is front packed = tt

-- what is said of an end is said of the answer that it makes
pub stops_by : {T : Type 0} (P : Result End IoFault → Type 0) (end : Result End IoFault) (result : Result T Unmade) → IsMadeBy end result → P end → IfErr result (λ kind. P (ending_of kind))
stops_by P end (Ok done) is p = tt
stops_by P end (Err kind) is p = subst P is p

pub fails_by : {T : Type 0} (X : Type 0) (kind : Unmade) (end : Result End IoFault) (result : Result T Unmade) → IsMadeBy end result → (end ≡ ending_of kind → X) → IfErr result (λ one. one ≡ kind → X)
fails_by X kind end (Ok done) is x = tt
fails_by X kind end (Err one) is x = λ same. x (is ∙ ap ending_of same)

pub done_by : {T : Type 0} (X : Type 0) (end : Result End IoFault) (result : Result T Unmade) → IsMadeBy end result → (end ≡ Ok code.Done → X) → OnOk result X
done_by X end (Ok done) is x = x is
done_by X end (Err kind) is x = tt
