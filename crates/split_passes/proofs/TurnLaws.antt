-- A run that a piece takes.
use Rattle.std.proofs.Common.{◌≡◌, ℕ, ◌+◌, ◌-◌, ◌*◌, ◌^◌, ◌<◌, ◌≤◌, max, false, List, [], ◌∷◌, ◌++◌, length, get_or, set, sum_by, Option, Some, None, refl, sym, ap, subst, ◌∙◌, inl, inr, arith}
use Rattle.std.specs.Option.{IfSome, unwrap_or}
use Rattle.std.specs.List.{All}
use Rattle.std.proofs.lemmas.List.{get_or_default, get_or-set_other, length-set, set-get_or, length-append}
use Rattle.std.proofs.lemmas.List.Elements.{All-nil, All-cons, All-weaker}
use Rattle.std.proofs.lemmas.List.Sums.{sum_by-set}
use Rattle.trace_base.specs.declared.layout.Layout.{Layout}
use Rattle.trace_base.specs.declared.order.Order.{Order}
use Rattle.subpage.specs.ItemData.{ItemData, item_time, last_time}
use Rattle.subpage.specs.Arrangement.{Keyed, CpusRise, keyed_from}
use Rattle.subpage.specs.Processor.{page_count}
use Rattle.subpage.specs.declared.mark.Mark.{Mark}
use Rattle.subpage.specs.declared.run.RunLimits.{RunLimits}
use Rattle.subpage.specs.Run.{IsRun, IsRunFound, nothing, begins_with, run_bytes, time_at}
use Rattle.page_pool.specs.declared.lane.Lane.{Lane}
use Rattle.page_pool.proofs.Keeping.{by_both}
use Rattle.page_pool.specs.declared.cursor.Ahead.{Ahead}
use Rattle.page_pool.specs.declared.cursor.LaneState.TheVariants.{Held}
use Rattle.page_pool.specs.Keeping.{KeepsLane, stepping}
use Rattle.page_pool.proofs.Keeping.{lane_still}
use Rattle.page_write.specs.Adding.{HasRoom, IsRunAfter}
use Rattle.page_write.specs.Passes.{IsPageCount}
use Rattle.event_cursor.specs.Stepping.{IsSteppedOver}
use Rattle.page_pool.specs.InOrder.{TellsAhead}
use Rattle.event_cursor.specs.Standing.{Stands, most_left}
use Rattle.time_merge.specs.Advancing.{Advances, IsOver}
use Rattle.tournament_tree.specs.declared.slot_key.SlotKey.{SlotKey}
use Rattle.time_merge.specs.LaneRows.{parts_of, IsReady, next_of}
use Rattle.time_merge.specs.Nexts.{IsInStepBut}
use Rattle.time_merge.specs.Turns.{HasTurn}
use Rattle.word_values.specs.declared.moment.Moment.{Moment}
use Rattle.split_pieces.specs.declared.gauge.Gauge.{Gauge}
use Rattle.split_pieces.specs.Allowing.{after_events, IsEventUpTo, TakesItems}
use Rattle.split_passes.specs.declared.tally.Tally.{Tally}
use Rattle.split_passes.specs.Choices.{past_end, Counting}
use Rattle.split_passes.specs.Tallies.{Tallies}
use Rattle.split_passes.specs.Takings.{IsRunTaken, IsTurnTaken, LimitsAllow, RunAllowed, RunWithin, TakesRun}
use Rattle.split_passes.proofs.Running.{Runs, runs_over, same_tallies}

-- times do not fall within a run
run_rises : (order : Order) (start end : ℕ) (xs : List ItemData) (bytes : List ℕ) → IsRun order start xs bytes end → start ≤ end
run_rises order start end xs bytes (nothing time) = omega arith
run_rises order start end xs bytes (begins_with time delta last payload front back others plain few behind) =
    let later : time + delta ≤ last = run_rises order (time + delta) last others back behind in
    omega (arith, later)

pub run_events : (order : Order) (cpu high start end until : ℕ) (xs : List ItemData) (bytes : List ℕ) → IsRun order start xs bytes end → high ≤ until → end ≤ until → All (IsEventUpTo until) (keyed_from cpu high xs)
run_events order cpu high start end until xs bytes (nothing time) low late = All-nil (IsEventUpTo until)
run_events order cpu high start end until xs bytes (begins_with time delta last payload front back others plain few behind) low late =
    let later : time + delta ≤ last = run_rises order (time + delta) last others back behind in
    All-cons (IsEventUpTo until) _ _ (refl, omega (arith, low, late, later))
    (run_events order cpu (max high (time + delta)) (time + delta) last until others back behind (omega (arith, low, late, later)) late)

pub keyed_long : (cpu high : ℕ) (xs : List ItemData) → length (keyed_from cpu high xs) ≡ length xs
keyed_long cpu high [] = refl
keyed_long cpu high (x ∷ xs) = let rest = keyed_long cpu (max high (item_time x)) xs in omega (arith, rest)

-- what was found is allowed, where the item at the lane's place is
pub run_allowed : (a : Lane) (limits : RunLimits) (tally : Tally) (ahead : Ahead) (found : Option (Mark × ℕ)) → TellsAhead a.layout a.page a.cursor.mark a.cursor.high (Some ahead) → ahead.key ≤ limits.until
    → ((xs : List ItemData) → (count : IsPageCount a.layout tally.pages xs) → last_time count.held ≡ Some (time_at a.cursor.mark)) → IsRunFound a.layout a.page a.cursor.mark limits found
    → IfSome found (λ run. RunAllowed a limits tally run.0 run.1)
run_allowed a limits tally ahead None has soon last found = tt
run_allowed a limits tally ahead (Some run) has soon last found = record {
  run = found.run;
  some = found.some;
  few = found.few;
  fits = found.fits;
  in_time = found.in_time;
  high = omega (arith, has.key, soon);
  last = last;
}

-- a run that was found before is, where it goes no further
pub run_within : (a : Lane) (limits : RunLimits) (tally : Tally) (ahead : Ahead) (next : Mark) (count : ℕ) → TellsAhead a.layout a.page a.cursor.mark a.cursor.high (Some ahead) → ahead.key ≤ limits.until
    → ((xs : List ItemData) → (count : IsPageCount a.layout tally.pages xs) → last_time count.held ≡ Some (time_at a.cursor.mark)) → RunWithin a limits next count → RunAllowed a limits tally next count
run_within a limits tally ahead next count has soon last found = record {
  run = found.run;
  some = found.some;
  few = found.few;
  fits = found.fits;
  in_time = found.in_time;
  high = omega (arith, has.key, soon);
  last = last;
}

-- a tally that counts a run after the items before it
abbrev pub CountsRun : Layout → Tally → Tally → List ℕ → ℕ → ℕ → Type 0
CountsRun l tally tally1 bytes end count =
    (xs ys : List ItemData) → (t : Tallies l tally xs) → IsRunAfter l t.pages.held bytes end ys → HasRoom l t.pages.held (length bytes) → length ys ≡ count → 0 < count
    → length (xs ++ ys) < 2 ^ 63 → Tallies l tally1 (xs ++ ys)

pub run_taken : (stop : Option Moment) (turn : ℕ) (gauge gauge1 : Gauge) (tally tally1 : Tally) (a after : Lane) (limits : RunLimits) (next : Mark) (count : ℕ) → LimitsAllow a.layout turn stop gauge tally limits
    → (r : RunAllowed a limits tally next count) → gauge1 ≡ after_events gauge count → CountsRun a.layout tally tally1 (run_bytes a.page a.cursor.mark next) (time_at next) count
    → IsSteppedOver r.run.items a after → TakesRun stop turn (record { gauge = gauge; tally = tally }) (record { gauge = gauge1; tally = tally1 }) a after
run_taken stop turn gauge gauge1 tally tally1 a after limits next count allow r gauge_is counts over =
    let xs = r.run.items in
    let high = unwrap_or a.cursor.high 0 in
    let used : List Keyed = keyed_from a.cpu high xs in
    let events : All (IsEventUpTo limits.until) used = run_events a.layout.order a.cpu high (time_at a.cursor.mark) (time_at next) limits.until xs (run_bytes a.page a.cursor.mark next) r.run.run r.high r.in_time in
    let long : length used ≡ count = keyed_long a.cpu high xs ∙ r.run.long in
    record {
      items = xs;
      some = omega (arith, r.run.long, r.some);
      over = over;
      up_to = All-weaker (IsEventUpTo limits.until) (λ x. x.key ≤ turn) (λ x e. omega (arith, e.1, allow.until)) used events;
      inside = All-weaker (IsEventUpTo limits.until) (λ x. past_end stop x ≡ false) (λ x e. allow.inside x.key e.1) used events;
      takes = subst (λ (g : Gauge). TakesItems gauge g used) (ap (after_events gauge) long ∙ sym gauge_is) (allow.takes used events (omega (arith, long, r.few)));
      tallied = λ ys t few.
          let before : Tallies a.layout tally ys = t (omega (arith, few, length-append ys xs)) in
          counts ys xs before (record { start = time_at a.cursor.mark; last = r.last ys before.pages; run = r.run.run }) (omega (arith, r.fits, allow.room ys before.pages)) r.run.long r.some few;
    }

-- SEVERAL LANES

forward_taken : (stop : Option Moment) (turn : ℕ) (before now : Counting) (a after : Lane) → IsRunTaken stop turn before now a after → a.cursor.at ≤ after.cursor.at
forward_taken stop turn before now a after (inl none) = let same : after.cursor.at ≡ a.cursor.at = ap (λ (b : Lane). b.cursor.at) none.still in omega (arith, same)
forward_taken stop turn before now a after (inr run) = omega (arith, run.over.at)

-- nothing is taken of a lane
pub turn_none : (stop : Option Moment) (counting : Counting) (lanes : List Lane) (i : ℕ) (d : Lane) → IsTurnTaken stop counting counting lanes i d lanes
turn_none stop counting lanes i d = record {
  lane = get_or lanes i d;
  lanes_are = sym (set-get_or lanes i d);
  keeps = lane_still stepping (get_or lanes i d);
  forward = omega arith;
  taken = inl record { still = refl; gauge = refl; tally = refl };
}

-- or a run, which comes before all other lanes
pub turn_taken : (stop : Option Moment) (before now : Counting) (lanes : List Lane) (i turn : ℕ) (here d after : Lane) → i < length lanes
    → ((bytes : List ℕ) → All (Stands bytes) lanes → HasTurn bytes lanes i turn) → KeepsLane stepping (get_or lanes i here) after → IsRunTaken stop turn before now (get_or lanes i here) after
    → IsTurnTaken stop before now lanes i d (set lanes i after)
turn_taken stop before now lanes i turn here d after inside has keeps taken =
    let a = get_or lanes i d in
    let same : get_or lanes i here ≡ a = get_or_default lanes i here d inside in
    let taken_here : IsRunTaken stop turn before now a after = subst (λ (b : Lane). IsRunTaken stop turn before now b after) same taken in
    record {
      lane = after;
      lanes_are = refl;
      keeps = subst (λ (b : Lane). KeepsLane stepping b after) same keeps;
      forward = forward_taken stop turn before now a after taken_here;
      taken = elim taken_here [
        | inl none ↦ inl none
        | inr run ↦ inr record { turn = turn; run = run; come = λ bytes stands. has bytes stands d after run.items run.over run.up_to }
      ];
    }

-- the piece goes on after a lane's turn
pub runs_turn : (file : List ℕ) (stop : Option Moment) (start gauge gauge1 : Gauge) (first lanes lanes1 : List Lane) (tallies : List Tally) (i : ℕ) (d : Lane) (e after : Tally)
    → CpusRise (parts_of first) → parts_of lanes ≡ parts_of first → length tallies ≡ length first → i < length lanes
    → IsTurnTaken stop (record { gauge = gauge; tally = get_or tallies i e }) (record { gauge = gauge1; tally = after }) lanes i d lanes1
    → Runs file stop start gauge first lanes tallies → Runs file stop start gauge1 first lanes1 (set tallies i after)
runs_turn file stop start gauge gauge1 first lanes lanes1 tallies i d e after rise parts long lt t r =
    subst (λ (ks : List Lane). Runs file stop start gauge1 first ks (set tallies i after)) (sym t.lanes_are) (elim t.taken [
      | inl none ↦
          let lanes_same : set lanes i t.lane ≡ lanes = ap (set lanes i) none.still ∙ set-get_or lanes i d in
          subst (λ (ks : List Lane). Runs file stop start gauge1 first ks (set tallies i after)) (sym lanes_same)
          (subst (λ (ts : List Tally). Runs file stop start gauge1 first lanes ts) (sym (same_tallies tallies i e after none.tally))
          (subst (λ (g : Gauge). Runs file stop start g first lanes tallies) (sym none.gauge) r))
      | inr some ↦
          runs_over file stop start gauge gauge1 first lanes tallies i d t.lane e after some.run.items rise parts long lt some.run.some some.run.over
          (some.come file r.passed.stands) some.run.inside some.run.takes some.run.tallied r
    ])

pub in_step_again : (lanes : List Lane) (keys : List SlotKey) (i : ℕ) (now : Lane) → IsInStepBut lanes keys i → IsInStepBut (set lanes i now) keys i
in_step_again lanes keys i now but = record {
  inside = omega (arith, but.inside, length-set lanes i now);
  ready = λ j d lt other. subst (λ (a : Lane). IsReady a) (sym (get_or-set_other lanes i j now d other)) (but.ready j d (omega (arith, lt, length-set lanes i now)) other);
  keys_are = λ j d lt other. but.keys_are j d (omega (arith, lt, length-set lanes i now)) other ∙ ap next_of (sym (get_or-set_other lanes i j now d other));
}

-- a lane that goes on in its sub-buffer
pub kept_advances : (a now : Lane) → a.cursor.state ≡ Held → KeepsLane stepping a now → Advances a now
kept_advances a now held k = record {
  layout = k.layout;
  part = k.part;
  forward = let same = k.next in omega (arith, same);
  over = λ over. let never : IsOver Held = subst IsOver held over in absurd never;
}

pub kept_most : (a now : Lane) → KeepsLane stepping a now → a.cursor.at ≤ now.cursor.at → most_left now ≤ most_left a
kept_most a now k forward =
    let part : page_count now.layout now.part ≡ page_count a.layout a.part = by_both page_count k.layout k.part in
    let next : now.cursor.next ≡ a.cursor.next = k.next in
    let pages : (page_count now.layout now.part - now.cursor.next) * 2 ^ 32 ≡ (page_count a.layout a.part - a.cursor.next) * 2 ^ 32 = ap (λ (n : ℕ). (n - now.cursor.next) * 2 ^ 32) part ∙ ap (λ (n : ℕ). (page_count a.layout a.part - n) * 2 ^ 32) next in
    omega (arith, pages, forward)

pub no_more : (before : ℕ) (lanes : List Lane) (i : ℕ) (d now : Lane) → i < length lanes → most_left now ≤ most_left (get_or lanes i d) → sum_by most_left lanes < before
    → sum_by most_left (set lanes i now) < before
no_more before lanes i d now lt less le = omega (arith, sum_by-set most_left lanes i now d lt, less)
