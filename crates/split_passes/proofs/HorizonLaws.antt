-- How far a lane holds all its items.
use Rattle.std.proofs.Common.{◌≡◌, ℕ, ◌+◌, ◌<◌, ◌≤◌, List, [], ◌∷◌, ◌++◌, length, get_or, Option, Some, None, inl, inr, refl, sym, ap, subst, ◌∙◌, append_assoc, arith}
use Rattle.std.specs.Option.{IfSome}
use Rattle.std.specs.List.{All}
use Rattle.std.proofs.lemmas.Bool.{cases_eq}
use Rattle.std.proofs.lemmas.List.{length-append, take-append-le, take_all}
use Rattle.std.proofs.lemmas.List.Elements.{All-nil, All-cons, All-take}
use Rattle.trace_base.specs.declared.layout.Layout.{Layout}
use Rattle.trace_base.specs.declared.order.Order.{Order}
use Rattle.subpage.specs.ItemData.{ItemData, item_time, EventAt}
use Rattle.subpage.specs.Marks.{items_from, mark_of}
use Rattle.subpage.specs.declared.mark.Mark.{Mark}
use Rattle.subpage.specs.declared.run.RunLimits.{RunLimits}
use Rattle.subpage.specs.Run.{IsRun, IsLongestRun, nothing, begins_with, run_bytes, time_at}
use Rattle.page_pool.specs.InOrder.{HasAhead, item_ahead}
use Rattle.page_pool.specs.declared.lane.Lane.{Lane}
use Rattle.page_pool.specs.declared.cursor.Ahead.{Ahead}
use Rattle.page_pool.specs.declared.cursor.LaneState.{LaneState}
use Rattle.page_pool.specs.declared.cursor.LaneState.TheVariants.{Fresh, Held, Ended, Malformed}
use Rattle.event_cursor.specs.Standing.{held_left, if_held, keyed_held}
use Rattle.tournament_tree.specs.declared.slot_key.SlotKey.TheVariants.{At}
use Rattle.tournament_tree.specs.Least.{from_time}
use Rattle.tournament_tree.proofs.Ranks.{from_lower}
use Rattle.time_merge.specs.LaneRows.{next_of, next_in}
use Rattle.time_merge.specs.Rows.{NotBefore}
use Rattle.split_passes.specs.declared.horizon.LaneHorizon.{LaneHorizon}
use Rattle.split_passes.specs.declared.taking.FoundRun.{FoundRun}
use Rattle.split_passes.specs.Rounds.{HasLater, HoldsLater, IsEventItem, ReachesPast, ReachesPastIn}

-- RUNS

-- the last item of a run, which is at its end
record Last (xs : List ItemData) (end : ℕ) : Type 0 where
  front : List ItemData
  item : ItemData
  is : xs ≡ front ++ item ∷ []
  time : item_time item ≡ end

no_more : (order : Order) (start end : ℕ) (bytes : List ℕ) → IsRun order start [] bytes end → start ≡ end
no_more order start end bytes (nothing time) = refl

run_last : (order : Order) (start end : ℕ) (xs : List ItemData) (bytes : List ℕ) → IsRun order start xs bytes end → 0 < length xs → Last xs end
run_last order start end xs bytes (nothing time) some = absurd (omega arith)
run_last order start end xs bytes (begins_with time delta last payload front back [] plain few behind) some = record {
  front = [];
  item = EventAt (time + delta) payload;
  is = refl;
  time = no_more order (time + delta) last back behind;
}
run_last order start end xs bytes (begins_with time delta last payload front back (y ∷ ys) plain few behind) some =
    let r = run_last order (time + delta) last (y ∷ ys) back behind (omega arith) in
    record {
      front = EventAt (time + delta) payload ∷ r.front;
      item = r.item;
      is = ap (λ (zs : List ItemData). EventAt (time + delta) payload ∷ zs) r.is;
      time = r.time;
    }

run_is_events : (order : Order) (start end : ℕ) (xs : List ItemData) (bytes : List ℕ) → IsRun order start xs bytes end → All IsEventItem xs
run_is_events order start end xs bytes (nothing time) = All-nil IsEventItem
run_is_events order start end xs bytes (begins_with time delta last payload front back others plain few behind) =
    All-cons IsEventItem _ _ refl (run_is_events order (time + delta) last others back behind)

front_events : (front back : List ItemData) → All IsEventItem (front ++ back) → All IsEventItem front
front_events front back all =
    subst (All IsEventItem) (take-append-le (length front) front back (omega arith) ∙ take_all (length front) front (omega arith)) (All-take IsEventItem (length front) (front ++ back) all)

single : (xs : List ItemData) → length xs ≡ 1 → (x : ItemData) × (xs ≡ x ∷ [])
single [] long = absurd (omega (arith, long))
single (x ∷ []) long = (x, refl)
single (x ∷ y ∷ ys) long = absurd (omega (arith, long))

last_of_one : (front : List ItemData) (item x : ItemData) → x ∷ [] ≡ front ++ item ∷ [] → item ≡ x
last_of_one [] item x e = cc
last_of_one (y ∷ front) item x e = absurd (omega (arith, ap length e, length-append front (item ∷ [])))

-- an event that was found by itself, and is later
pub later_event : (l : Layout) (page : List ℕ) (mark : Mark) (limits : RunLimits) (until : ℕ) (next : Mark) (count : ℕ) → IsLongestRun l page mark limits next count → limits.events ≡ 1 → until < time_at next → HasLater l page mark until
later_event l page mark limits until next count found one late =
    let to = found.run in
    let alone = single to.items (omega (arith, to.long, found.some, found.few, one)) in
    let last = run_last l.order (time_at mark) (time_at next) to.items (run_bytes page mark next) to.run (omega (arith, to.long, found.some)) in
    let same : last.item ≡ alone.0 = last_of_one last.front last.item alone.0 (sym alone.1 ∙ last.is) in
    record {
      item = alone.0;
      rest = items_from l page next;
      items = to.left ∙ ap (λ (xs : List ItemData). xs ++ items_from l page next) alone.1;
      later = let time : item_time alone.0 ≡ time_at next = ap item_time (sym same) ∙ last.time in omega (arith, late, time);
    }

-- A LANE THAT HOLDS A SUB-BUFFER

module _ (a : Lane) (held : a.cursor.state ≡ Held) where
  abbrev there : List ItemData
  there = items_from a.layout a.page a.cursor.mark

  held_is : held_left a ≡ there
  held_is = ap (λ (s : LaneState). if_held s there) held

  -- its next item is later
  pub next_later : (ahead : Ahead) (until most n : ℕ) → HasAhead a.layout a.page a.cursor.mark a.cursor.high ahead → n < ahead.key → HoldsLater n most a
  next_later ahead until most n has late = record {
    front = [];
    item = item_ahead a.page a.cursor.mark ahead;
    rest = items_from a.layout a.page (mark_of ahead.behind);
    held = held_is ∙ has.items;
    few = omega arith;
    events = All-nil IsEventItem;
    later = let key = has.key in omega (arith, late, key);
  }

  -- the one after a run
  pub behind_later : (limits : RunLimits) (next : Mark) (count until most : ℕ) → IsLongestRun a.layout a.page a.cursor.mark limits next count → limits.events ≤ most → HasLater a.layout a.page next until → HoldsLater until most a
  behind_later limits next count until most found le later =
      let to = found.run in
      record {
        front = to.items;
        item = later.item;
        rest = later.rest;
        held = held_is ∙ to.left ∙ ap (λ (xs : List ItemData). to.items ++ xs) later.items;
        few = omega (arith, to.long, found.few, le);
        events = run_is_events a.layout.order (time_at a.cursor.mark) (time_at next) to.items (run_bytes a.page a.cursor.mark next) to.run;
        later = omega (arith, later.later);
      }

  -- the last of a run
  pub last_later : (limits : RunLimits) (next : Mark) (count until most : ℕ) → IsLongestRun a.layout a.page a.cursor.mark limits next count → limits.events ≤ most → until < time_at next → HoldsLater until most a
  last_later limits next count until most found le late =
      let to = found.run in
      let bytes = run_bytes a.page a.cursor.mark next in
      let last = run_last a.layout.order (time_at a.cursor.mark) (time_at next) to.items bytes to.run (omega (arith, to.long, found.some)) in
      let rest = items_from a.layout a.page next in
      record {
        front = last.front;
        item = last.item;
        rest = rest;
        held = held_is ∙ to.left ∙ ap (λ (xs : List ItemData). xs ++ rest) last.is ∙ append_assoc last.front (last.item ∷ []) rest;
        few = omega (arith, to.long, found.few, le, ap length last.is, length-append last.front (last.item ∷ []));
        events = front_events last.front (last.item ∷ []) (subst (All IsEventItem) last.is (run_is_events a.layout.order (time_at a.cursor.mark) (time_at next) to.items bytes to.run));
        later = let time = last.time in omega (arith, late, time);
      }

-- a key that was found below another one
pub below_key : (found : Option LaneHorizon) (key until : ℕ) (P : ℕ → Type 0) → IfSome found (λ h. (h.until < key) × (h.until ≤ until)) → ((n : ℕ) → n < key → P n) → IfSome found (λ h. (h.until ≤ until) × P h.until)
below_key None key until P found holds = tt
below_key (Some h) key until P found holds = (found.1, holds h.until found.0)

-- no run was found with it
pub below_run : (found : Option LaneHorizon) (P : FoundRun → Type 0) → IfSome found (λ h. h.run ≡ None) → IfSome found (λ h. IfSome h.run P)
below_run None P none = tt
below_run (Some h) P none = subst (λ (o : Option FoundRun). IfSome o P) (sym none) tt

-- ANY LANE

reaches_held : (until most : ℕ) (a : Lane) → a.cursor.state ≡ Held → HoldsLater until most a → ReachesPast until most a
reaches_held until most a is h = subst (λ (s : LaneState). ReachesPastIn s until most a) (sym is) h

pub reaches_found : (most until : ℕ) (a : Lane) → a.cursor.state ≡ Held → (found : Option LaneHorizon) → IfSome found (λ f. (f.until ≤ until) × HoldsLater f.until most a)
    → IfSome found (λ f. (f.until ≤ until) × ReachesPast f.until most a)
reaches_found most until a is None h = tt
reaches_found most until a is (Some f) h = (h.0, reaches_held f.until most a is h.1)

pub reaches_ended : (until most : ℕ) (a : Lane) → a.cursor.state ≡ Ended → ReachesPast until most a
reaches_ended until most a is = subst (λ (s : LaneState). ReachesPastIn s until most a) (sym is) tt

pub reaches_cut : (until most high : ℕ) (a : Lane) → a.cursor.state ≡ Malformed → a.cursor.high ≡ Some high → until < high → ReachesPast until most a
reaches_cut until most high a is key late =
    let next : next_of a ≡ At high = ap (λ (s : LaneState). next_in s a.cursor.high (keyed_held a)) is ∙ ap from_time key in
    let after : NotBefore (until + 2) (At high) = omega (arith, late) in
    subst (λ (s : LaneState). ReachesPastIn s until most a) (sym is) (subst (NotBefore (until + 2)) (sym next) after)

-- what is known up to a key is known up to an earlier one
pub reaches_sooner : (until most n : ℕ) (a : Lane) → n ≤ until → ReachesPast until most a → ReachesPast n most a
reaches_sooner until most n a le h = by_state a.cursor.state h
  where
    by_state : (s : LaneState) → ReachesPastIn s until most a → ReachesPastIn s n most a
    by_state Fresh h = h
    by_state Held h = record {
      front = h.front;
      item = h.item;
      rest = h.rest;
      held = h.held;
      few = h.few;
      events = h.events;
      later = omega (arith, le, h.later);
    }
    by_state Ended h = tt
    by_state Malformed h = from_lower (n + 2) (until + 2) (next_of a) (omega (arith, le)) h

-- one lane more
pub reaches_more : (most until now i : ℕ) (lanes : List Lane) → now ≤ until → ((j : ℕ) (d : Lane) → j < i → ReachesPast until most (get_or lanes j d)) → ((d : Lane) → ReachesPast now most (get_or lanes i d))
    → (j : ℕ) (d : Lane) → j < i + 1 → ReachesPast now most (get_or lanes j d)
reaches_more most until now i lanes le before here j d lt = elim (cases_eq j i) [
  | inl same ↦ subst (λ (k : ℕ). ReachesPast now most (get_or lanes k d)) (sym same) (here d)
  | inr other ↦ reaches_sooner until most now (get_or lanes j d) le (before j d (omega (arith, lt, other)))
]
