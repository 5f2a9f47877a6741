-- Lists that are packed, one after another.
use Rattle.std.proofs.Common.{◌≡◌, ℕ, zero, suc, ◌+◌, ◌<◌, ◌≤◌, List, [], ◌∷◌, ◌++◌, length, get_or, set, take, inl, inr, Option, Result, Ok, Err, refl, sym, ap, subst, ◌∙◌, append-nil, arith}
use Rattle.std.specs.List.{All, Contains, flat_map}
use Rattle.std.specs.Io.KnownBytes.{append_known}
use Rattle.std.proofs.lemmas.Grind.{flat_map-append}
use Rattle.std.proofs.lemmas.Grind.{get_or-set_at}
use Rattle.std.proofs.lemmas.Bool.{cases_eq}
use Rattle.std.proofs.lemmas.List.Elements.{Contains-append_left, Contains-append_right}
use Rattle.std.proofs.lemmas.List.{get_or_default, get_or-set_same, get_or-set_other, length-set, map-append, set-get_or, take_all, take_more_set}
use Rattle.std.proofs.lemmas.List.Sums.{sum_by-append, sum_by-cons, sum_by-take-le}
use Rattle.trace_base.specs.declared.layout.Layout.{Layout}
use Rattle.trace_base.specs.declared.part.Part.{Part}
use Rattle.trace_outside.specs.Causes.{raised}
use Rattle.trace_outside.specs.Writing.{Gained}
use Rattle.trace_outside.proofs.Gains.{gained_both, gained_nothing}
use Rattle.subpage.specs.ItemData.{ItemData}
use Rattle.subpage.specs.Arrangement.{Keyed}
use Rattle.subpage.specs.declared.cut_place.CutPlace.{CutPlace}
use Rattle.page_pool.specs.declared.cursor.LaneState.{LaneState}
use Rattle.page_pool.specs.declared.lane.Lane.{Lane}
use Rattle.page_write.specs.Pack.{pack}
use Rattle.page_write.specs.Placed.{data_of}
use Rattle.event_cursor.specs.Standing.{Stands}
use Rattle.time_merge.specs.declared.ending.End.{End}
use Rattle.time_merge.specs.declared.ending.End.TheVariants as code
use Rattle.time_merge.specs.declared.ending.IoFault.{IoFault}
use Rattle.split_pieces.specs.Cuts.{items_of_cpu}
use Rattle.split_passes.specs.AllAgain.{IsPackedAll, PackedAll, TellsHeld, TellsStop, held_of, owns}
use Rattle.split_passes.proofs.Stopping.{tells_held}
use Rattle.split_passes.specs.ListSeen.{ListSeen}
use Rattle.split_passes.specs.Outputs.{LanesOutput}
use Rattle.split_passes.specs.Reads.{all_packing, numbers_of}
use Rattle.split_tool.specs.Going.{KeepsList}
use Rattle.split_tool.specs.Lists.{EachList, lanes_of}
use Rattle.split_tool.specs.Made.{AreFrontsOf, OwnFronts}
use Rattle.split_tool.specs.Reads.{lists_packing}
use Rattle.split_tool.proofs.Flat.{Kept, each_tail}
use Rattle.split_tool.proofs.Begun.{StaysOn, all_stay}
use Rattle.split_tool.proofs.Gone.{first_more}

-- the items of lists, one list after another
owns_append : (a b : List Lane) (taken : List Keyed) → owns (a ++ b) taken ≡ owns a taken ++ owns b taken
owns_append a b taken = map-append (λ (lane : Lane). items_of_cpu lane.cpu taken) a b

pub data_push : (l : Layout) (lists : List ListSeen) (x : ListSeen) (taken : List Keyed) → data_of l (owns (lanes_of (lists ++ x ∷ [])) taken) ≡ data_of l (owns (lanes_of lists) taken) ++ data_of l (owns x.all taken)
unfolding data_of
data_push l lists x taken =
    ap (λ (ls : List Lane). flat_map (pack l) (owns ls taken)) (flat_map-append (λ (y : ListSeen). y.all) lists (x ∷ []) ∙ ap (λ (ls : List Lane). lanes_of lists ++ ls) (append-nil x.all))
    ∙ ap (flat_map (pack l)) (owns_append (lanes_of lists) x.all taken)
    ∙ flat_map-append (pack l) (owns (lanes_of lists) taken) (owns x.all taken)

pub data_nil : (l : Layout) → data_of l [] ≡ []
unfolding data_of
data_nil l = refl

-- the first n lists were packed
pub record ListsPackedTo (l : Layout) (file : List ℕ) (n : ℕ) (first now : List ListSeen) (taken : List Keyed) (old new : Option (List ℕ)) : Type 0 where
  pub each : (j : ℕ) (d : ListSeen) → j < n → StaysOn file (get_or first j d) (get_or now j d)
  pub gained : Gained old new (data_of l (owns (lanes_of (take n first)) taken))

pub packed_none : (l : Layout) (file : List ℕ) (lists : List ListSeen) (taken : List Keyed) (old : Option (List ℕ)) → ListsPackedTo l file 0 lists lists taken old old
packed_none l file lists taken old = record {
  each = λ j d lt. absurd (omega (arith, lt));
  gained = gained_nothing old ∙ ap (append_known old) (sym (data_nil l));
}

pub packed_more : (l k : Layout) (file : List ℕ) (n : ℕ) (first now : List ListSeen) (d new : ListSeen) (taken : List Keyed) (begin old now_written : Option (List ℕ)) → n < length now → length now ≡ length first
    → ((j : ℕ) (e : ListSeen) → n ≤ j → get_or now j e ≡ get_or first j e) → k ≡ l
    → PackedAll k file (owns (get_or now n d).all taken) (record { lanes = (get_or now n d).all; written = old }) (record { lanes = new.all; written = now_written })
    → ListsPackedTo l file n first now taken begin old → ListsPackedTo l file (n + 1) first (set now n new) taken begin now_written
packed_more l k file n first now d new taken begin old now_written lt long others is one p =
    let x = get_or now n d in
    let inside : n < length first = omega (arith, lt, long) in
    let here : PackedAll l file (owns x.all taken) (record { lanes = x.all; written = old }) (record { lanes = new.all; written = now_written }) =
    subst (λ (m : Layout). PackedAll m file (owns x.all taken) (record { lanes = x.all; written = old }) (record { lanes = new.all; written = now_written })) is one in
    let firsts : take (n + 1) first ≡ take n first ++ x ∷ [] =
    ap (take (n + 1)) (sym (set-get_or first n d)) ∙ take_more_set first n (get_or first n d) inside ∙ ap (λ (y : ListSeen). take n first ++ y ∷ []) (sym (others n d (omega arith))) in
    let more : data_of l (owns (lanes_of (take (n + 1) first)) taken) ≡ data_of l (owns (lanes_of (take n first)) taken) ++ data_of l (owns x.all taken) =
    ap (λ (ls : List ListSeen). data_of l (owns (lanes_of ls) taken)) firsts ∙ data_push l (take n first) x taken in
    record {
      each = first_more (StaysOn file) n first now d new lt others (record { rows = here.rows; stands = λ before. here.stands }) p.each;
      gained = gained_both begin old now_written (data_of l (owns (lanes_of (take n first)) taken)) (data_of l (owns x.all taken)) p.gained here.gained ∙ ap (append_known begin) (sym more);
    }

pub lists_packed : (l : Layout) (file : List ℕ) (n : ℕ) (first now : List ListSeen) (taken : List Keyed) (old new : Option (List ℕ)) → length now ≡ length first → length first ≤ n → All (Stands file) (lanes_of first)
    → ListsPackedTo l file n first now taken old new
    → PackedAll l file (owns (lanes_of first) taken) (record { lanes = lanes_of first; written = old }) (record { lanes = lanes_of now; written = new })
lists_packed l file n first now taken old new long enough stands p =
    let stay = all_stay file n first now long enough p.each in
    record {
      stands = stay.stands stands;
      rows = stay.rows;
      gained = p.gained ∙ ap (λ (ls : List ListSeen). append_known old (data_of l (owns (lanes_of ls) taken))) (take_all n first enough);
    }

-- NUMBERS

abbrev pub SameNumbers : ListSeen → ListSeen → Type 0
SameNumbers x y = numbers_of y.all ≡ numbers_of x.all

numbers_flat : (first now : List ListSeen) → length now ≡ length first → EachList SameNumbers first now → numbers_of (lanes_of now) ≡ numbers_of (lanes_of first)
numbers_flat [] [] long each = refl
numbers_flat [] (b ∷ now) long each = absurd (omega (arith, long))
numbers_flat (a ∷ first) [] long each = absurd (omega (arith, long))
numbers_flat (a ∷ first) (b ∷ now) long each =
    map-append _ b.all (lanes_of now)
    ∙ ap (λ (ns : List (Layout × Part × LaneState × ℕ)). ns ++ numbers_of (lanes_of now)) (each 0 a (omega arith))
    ∙ ap (λ (ns : List (Layout × Part × LaneState × ℕ)). numbers_of a.all ++ ns) (numbers_flat first now (omega (arith, long)) (each_tail SameNumbers a b first now each))
    ∙ sym (map-append _ a.all (lanes_of first))

pub all_numbers : (n : ℕ) (first now : List ListSeen) → length now ≡ length first → length first ≤ n → ((j : ℕ) (d : ListSeen) → j < n → SameNumbers (get_or first j d) (get_or now j d)) → numbers_of (lanes_of now) ≡ numbers_of (lanes_of first)
all_numbers n first now long enough each = numbers_flat first now long (λ j d lt. each j d (omega (arith, lt, enough)))

-- WHERE PACKING STOPPED

held_flat : (lists : List ListSeen) (k : ℕ) (e : ListSeen) (cut : CutPlace) → k < length lists → Contains (held_of (get_or lists k e).all) cut → Contains (held_of (lanes_of lists)) cut
held_flat [] k e cut lt held = absurd (omega (arith, lt))
held_flat (x ∷ lists) zero e cut lt held =
    subst (λ (hs : List CutPlace). Contains hs cut) (sym (map-append _ x.all (lanes_of lists))) (Contains-append_left (held_of x.all) (held_of (lanes_of lists)) cut held)
held_flat (x ∷ lists) (suc k) e cut lt held =
    subst (λ (hs : List CutPlace). Contains hs cut) (sym (map-append _ x.all (lanes_of lists)))
    (Contains-append_right (held_of x.all) (held_of (lanes_of lists)) cut (held_flat lists k e cut (omega (arith, lt)) held))

pub held_there : (before : List Lane) (now : List ListSeen) (n : ℕ) (new : ListSeen) (end : Result End IoFault) → n < length now → TellsStop before new.all end → TellsHeld (lanes_of (set now n new)) end
held_there before now n new (Ok code.Done) lt stop = tt
held_there before now n new (Err fault) lt stop = tt
held_there before now n new (Ok (code.Malformed cut)) lt stop =
    let held : Contains (held_of new.all) cut = tells_held before new.all (Ok (code.Malformed cut)) stop in
    held_flat (set now n new) n new cut (omega (arith, lt, length-set now n new))
    (subst (λ (x : ListSeen). Contains (held_of x.all) cut) (sym (get_or-set_same now n new new lt)) held)

-- WHAT IS READ

pub packing_more : (len now_len : ℕ) (n : ℕ) (first now : List ListSeen) (d : ListSeen) (start mid after : ℕ) → n < length now → length now ≡ length first
    → ((j : ℕ) (e : ListSeen) → n ≤ j → get_or now j e ≡ get_or first j e) → now_len ≡ len → mid ≤ raised start (lists_packing len (take n first))
    → after ≤ raised mid (all_packing now_len (get_or now n d).all (get_or now n d).fronts (get_or now n d).tallies) → after ≤ raised start (lists_packing len (take (n + 1) first))
packing_more len now_len n first now d start mid after lt long others same read more =
    let x = get_or now n d in
    let inside : n < length first = omega (arith, lt, long) in
    let here : after ≤ raised mid (all_packing len x.all x.fronts x.tallies) =
    subst (λ (m : ℕ). after ≤ raised mid (all_packing m x.all x.fronts x.tallies)) same more in
    let firsts : take (n + 1) first ≡ take n first ++ x ∷ [] =
    ap (take (n + 1)) (sym (set-get_or first n d)) ∙ take_more_set first n (get_or first n d) inside ∙ ap (λ (y : ListSeen). take n first ++ y ∷ []) (sym (others n d (omega arith))) in
    let h : ListSeen → ℕ = λ y. all_packing len y.all y.fronts y.tallies in
    let all : lists_packing len (take (n + 1) first) ≡ lists_packing len (take n first ++ x ∷ []) = ap (lists_packing len) firsts in
    omega (arith, read, here, all, sum_by-append h (take n first) (x ∷ []), sum_by-cons h x [])

pub packing_all : (len : ℕ) (n : ℕ) (first : List ListSeen) (start after : ℕ) → after ≤ raised start (lists_packing len (take n first)) → after ≤ raised start (lists_packing len first)
packing_all len n first start after read = omega (arith, read, sum_by-take-le (λ (y : ListSeen). all_packing len y.all y.fronts y.tallies) first n)

-- lists that keep all but where their lanes stand
pub kept_more : (n : ℕ) (first now : List ListSeen) (d new : ListSeen) → n < length now → ((j : ℕ) (e : ListSeen) → n ≤ j → get_or now j e ≡ get_or first j e) → KeepsList (get_or now n d) new
    → ((j : ℕ) (e : ListSeen) → KeepsList (get_or first j e) (get_or now j e)) → (j : ℕ) (e : ListSeen) → KeepsList (get_or first j e) (get_or (set now n new) j e)
kept_more n first now d new lt others one each j e = elim (cases_eq j n) [
  | inl here ↦
      let old : get_or now n d ≡ get_or first j e = get_or_default now n d e lt ∙ others n e (omega arith) ∙ ap (λ (k : ℕ). get_or first k e) (sym here) in
      subst (KeepsList (get_or first j e)) (sym (get_or-set_at now n j new e here lt)) (subst (λ (x : ListSeen). KeepsList x new) old one)
  | inr other ↦ subst (KeepsList (get_or first j e)) (sym (get_or-set_other now n j new e other)) (each j e)
]

pub layout_at : (l : Layout) (n : ℕ) (first now : List ListSeen) (d : ListSeen) → length now ≡ length first → ((j : ℕ) (e : ListSeen) → n ≤ j → get_or now j e ≡ get_or first j e) → All (λ (x : ListSeen). x.layout ≡ l) first → n < length now → (get_or now n d).layout ≡ l
layout_at l n first now d long others layouts lt = let inside : n < length first = omega (arith, lt, long) in ap (λ (x : ListSeen). x.layout) (others n d (omega arith)) ∙ layouts n d inside

pub fronts_there : (file : List ℕ) (n : ℕ) (first now : List ListSeen) (d : ListSeen) (taken : List Keyed) → n < length now → length now ≡ length first → ((j : ℕ) (e : ListSeen) → n ≤ j → get_or now j e ≡ get_or first j e)
    → AreFrontsOf file first taken → OwnFronts file (get_or now n d) taken
fronts_there file n first now d taken lt long others fronts =
    let inside : n < length first = omega (arith, lt, long) in
    subst (λ (x : ListSeen). OwnFronts file x taken) (sym (others n d (omega arith))) (fronts n d inside)

pub all_kept : (first now : List ListSeen) → EachList KeepsList first now → EachList Kept first now
all_kept first now keeps j d lt = let k = keeps j d lt in (ap (λ (x : ListSeen). x.layout) k.same, k.parts)

-- an end is no fault, and it is one
pub never_fault : (end : End) (kind : IoFault) (result : Result End IoFault) → result ≡ Ok end → result ≡ Err kind → ⊥
never_fault end kind result is was = cc

pub same_end : (one end : End) (result : Result End IoFault) → result ≡ Ok one → result ≡ Ok end → one ≡ end
same_end one end result is was = cc

-- packing came to its end
pub done_told : (l : Layout) (file : List ℕ) (own : List (List ItemData)) (a b : LanesOutput) (end : End) → end ≡ code.Done → IsPackedAll l file own a b (Ok end) → PackedAll l file own a b
done_told l file own a b end is p = subst (λ (e : End). IsPackedAll l file own a b (Ok e)) is p

-- or it did not
pub stopped_told : (l k : Layout) (file : List ℕ) (own all : List (List ItemData)) (a b x y : LanesOutput) (end : End) → (end ≡ code.Done → ⊥) → IsPackedAll k file own a b (Ok end) → IsPackedAll l file all x y (Ok end)
stopped_told l k file own all a b x y code.Done some p = absurd (some refl)
stopped_told l k file own all a b x y (code.Malformed cut) some p = p
