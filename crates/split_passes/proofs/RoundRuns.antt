-- Pass one goes on after a round, or after a turn.
use Rattle.std.proofs.Common.{◌≡◌, ℕ, zero, suc, ◌+◌, ◌<◌, ◌≤◌, false, eqb, List, [], ◌∷◌, ◌++◌, length, map, get_or, set, sum_by, Option, Some, None, refl, sym, ap, subst, ◌∙◌, append_assoc, inl, inr, arith}
use Rattle.std.specs.List.{All}
use Rattle.std.proofs.lemmas.List.{length-set, length-append, map-append}
use Rattle.std.proofs.lemmas.List.Sums.{sum_by-cons}
use Rattle.std.proofs.lemmas.List.Elements.{All-get_or, All-weaker, filter-append}
use Rattle.trace_base.specs.declared.layout.Layout.{Layout}
use Rattle.trace_base.specs.declared.part.Part.{Part}
use Rattle.subpage.specs.ItemData.{ItemData}
use Rattle.subpage.specs.Arrangement.{Keyed, CpusRise, cpu_of, with_key}
use Rattle.page_pool.specs.declared.lane.Lane.{Lane}
use Rattle.page_pool.specs.declared.cursor.LaneState.TheVariants.{Held}
use Rattle.page_pool.specs.Keeping.{KeepsLane, stepping}
use Rattle.event_cursor.specs.Standing.{Stands, left_of, held_left, most_left}
use Rattle.time_merge.specs.Advancing.{Advances, IsOver}
use Rattle.tournament_tree.specs.declared.slot_key.SlotKey.{SlotKey}
use Rattle.time_merge.specs.LaneRows.{parts_of, to_come}
use Rattle.time_merge.specs.Nexts.{IsInStep, IsInStepBut}
use Rattle.time_merge.specs.Reads.{all_unread}
use Rattle.time_merge.proofs.Advancing.{advances_more, advances_not, same_length}
use Rattle.time_merge.proofs.PartReads.{same_unread, set_unread}
use Rattle.time_merge.proofs.Readying.{set_parts}
use Rattle.event_cursor.specs.Unread.{unread}
use Rattle.word_values.specs.declared.moment.Moment.{Moment}
use Rattle.split_pieces.specs.declared.gauge.Gauge.{Gauge}
use Rattle.split_pieces.specs.Allowing.{IsEventUpTo}
use Rattle.split_pieces.specs.Cuts.{items_of_cpu}
use Rattle.split_passes.specs.declared.tally.Tally.{Tally}
use Rattle.split_passes.specs.Choices.{past_end}
use Rattle.split_passes.specs.Rounds.{Counts, IsMoreTaken, IsUsed, RoundTaken}
use Rattle.split_passes.specs.Tallies.{IsTally}
use Rattle.split_passes.proofs.Going.{over_more}
use Rattle.split_passes.proofs.LaneRounds.{none_left, some_held, used_at, used_keeps}
use Rattle.split_passes.proofs.RoundLaws.{own_taken, round_comes, round_events, taken_long, taken_of, took, Took}
use Rattle.split_passes.proofs.Running.{Runs, item_of, runs_more, same_cpu}
use Rattle.split_passes.proofs.TurnLaws.{in_step_again, kept_advances, kept_most, no_more, runs_turn}

-- WHAT IS TAKEN

pub own_append : (c : ℕ) (xs ys : List Keyed) → items_of_cpu c (xs ++ ys) ≡ items_of_cpu c xs ++ items_of_cpu c ys
own_append c xs ys = ap (map item_of) (filter-append (λ (y : Keyed). eqb y.cpu c) xs ys) ∙ map-append item_of (with_key cpu_of c xs) (with_key cpu_of c ys)

-- the piece goes on after a round
runs_round : (file : List ℕ) (stop : Option Moment) (start : Gauge) (first : List Lane) (e : Tally) (before now : Counts)
    → CpusRise (parts_of first) → parts_of before.lanes ≡ parts_of first → RoundTaken stop before now
    → Runs file stop start before.gauge first before.lanes before.tallies → Runs file stop start now.gauge first now.lanes now.tallies
runs_round file stop start first e before now rise parts t r =
    let lanes = before.lanes in
    let taken = taken_of lanes t.lists in
    let lanes_long : length lanes ≡ length first = same_length lanes first parts in
    let rises : CpusRise (parts_of lanes) = subst (λ (ps : List (ℕ × Part)). CpusRise ps) (sym parts) rise in
    let events : All (IsEventUpTo t.until) taken = round_events file t.until lanes now.lanes t.lists t.lanes_long t.lists_long each in
    let come : to_come file lanes ≡ taken ++ to_come file now.lanes = round_comes file t.until lanes now.lanes t.lists rises t.lanes_long t.lists_long each in
    runs_more file stop start before.gauge now.gauge first lanes now.lanes before.tallies now.tallies taken come
    (All-weaker (IsEventUpTo t.until) (λ x. past_end stop x ≡ false) (λ x up. t.inside x.key up.1) taken events)
    (t.takes taken events (taken_long lanes t.lists t.lists_long)) r
    (record {
      stands = λ i d lt. (each i d (omega (arith, lt, t.lanes_long))).stands;
      came = r.passed.came ∙ ap (λ (ys : List Keyed). r.taken ++ ys) come ∙ sym (append_assoc r.taken taken (to_come file now.lanes));
      layouts = λ j d lt. (used_keeps (get_or t.lists j []) (get_or lanes j d) (get_or now.lanes j d) (t.each j d e (omega (arith, lt, lanes_long))).few.used).layout ∙ r.passed.layouts j d lt;
      lefts = λ j d lt.
          let cpu0 = (get_or first j d).cpu in
          let xs = get_or t.lists j [] in
          let left : left_of file (get_or lanes j d) ≡ xs ++ left_of file (get_or now.lanes j d) = (each j d (omega (arith, lt, lanes_long))).left in
          r.passed.lefts j d lt ∙ ap (λ (ys : List ItemData). items_of_cpu cpu0 r.taken ++ ys) left
          ∙ sym (append_assoc (items_of_cpu cpu0 r.taken) xs (left_of file (get_or now.lanes j d)))
          ∙ ap (λ (ys : List ItemData). ys ++ left_of file (get_or now.lanes j d)) (sym (own j d lt));
    })
    (λ j d c lt.
    let cpu0 = (get_or first j d).cpu in
    let l0 = (get_or first j d).layout in
    let few = (t.each j d c (omega (arith, lt, lanes_long))).few in
    let counts : (ys : List ItemData) → IsTally l0 (get_or before.tallies j c) ys → IsTally l0 (get_or now.tallies j c) (ys ++ get_or t.lists j []) =
    subst (λ (l : Layout). (ys : List ItemData) → IsTally l (get_or before.tallies j c) ys → IsTally l (get_or now.tallies j c) (ys ++ get_or t.lists j [])) (r.passed.layouts j d lt) few.tallied in
    subst (IsTally l0 (get_or now.tallies j c)) (sym (own j d lt)) (counts (items_of_cpu cpu0 r.taken) (r.tallied j d c lt)))
  where
    each : (i : ℕ) (d : Lane) → i < length before.lanes → Took file t.until (get_or before.lanes i d) (get_or now.lanes i d) (get_or t.lists i [])
    each i d lt = took file t.until t.most (get_or before.lanes i d) (get_or now.lanes i d) (get_or before.tallies i e) (get_or now.tallies i e) (get_or t.lists i [])
        (All-get_or (Stands file) before.lanes i d lt r.passed.stands) (t.each i d e lt)

    own : (j : ℕ) (d : Lane) → j < length first → items_of_cpu (get_or first j d).cpu (r.taken ++ taken_of before.lanes t.lists) ≡ items_of_cpu (get_or first j d).cpu r.taken ++ get_or t.lists j []
    own j d lt =
        let lanes = before.lanes in
        let cpu0 = (get_or first j d).cpu in
        let lanes_long : length lanes ≡ length first = same_length lanes first parts in
        let inside : j < length lanes = omega (arith, lt, lanes_long) in
        let cpu : (get_or lanes j d).cpu ≡ cpu0 = same_cpu lanes first j d inside lt parts in
        let rises : CpusRise (parts_of lanes) = subst (λ (ps : List (ℕ × Part)). CpusRise ps) (sym parts) rise in
        let mine : items_of_cpu cpu0 (taken_of lanes t.lists) ≡ get_or t.lists j [] =
        subst (λ (c : ℕ). items_of_cpu c (taken_of lanes t.lists) ≡ get_or t.lists j []) cpu (own_taken lanes t.lists j d rises inside t.lists_long) in
        own_append cpu0 r.taken (taken_of lanes t.lists) ∙ ap (λ (ys : List ItemData). items_of_cpu cpu0 r.taken ++ ys) mine

-- or after either
pub more_runs : (file : List ℕ) (stop : Option Moment) (start : Gauge) (first : List Lane) (i : ℕ) (d : Lane) (e : Tally) (before now : Counts) (used : Option ℕ)
    → CpusRise (parts_of first) → parts_of before.lanes ≡ parts_of first → length before.tallies ≡ length first → i < length before.lanes → IsMoreTaken stop before now i used
    → Runs file stop start before.gauge first before.lanes before.tallies → Runs file stop start now.gauge first now.lanes now.tallies
more_runs file stop start first i d e before now None rise parts long lt t r = runs_round file stop start first e before now rise parts t r
more_runs file stop start first i d e before now (Some k) rise parts long lt t r =
    subst (λ (ts : List Tally). Runs file stop start now.gauge first now.lanes ts) (sym t.1.1.0)
    (runs_turn file stop start before.gauge now.gauge first before.lanes now.lanes before.tallies i d e t.1.0 rise parts long lt (t.1.1.1 d e) r)

-- HOW FAR THE LANES GO

-- The lanes go on in their sub-buffers, and the tallies of those that are over stay.
pub record MoreKept (nexts : List SlotKey) (before now : Counts) (used : Option ℕ) : Type 0 where
  pub parts : parts_of now.lanes ≡ parts_of before.lanes
  pub long : length now.tallies ≡ length before.tallies
  pub in_step : IsInStep now.lanes nexts used
  pub advance : (j : ℕ) (d : Lane) → j < length before.lanes → Advances (get_or before.lanes j d) (get_or now.lanes j d)
  pub over : (j : ℕ) (d : Lane) (t : Tally) → j < length before.lanes → IsOver (get_or before.lanes j d).cursor.state → get_or now.tallies j t ≡ get_or before.tallies j t
  pub unread : (len : ℕ) → all_unread len now.lanes ≡ all_unread len before.lanes
  pub most : sum_by most_left now.lanes ≤ sum_by most_left before.lanes

turn_kept : (stop : Option Moment) (nexts : List SlotKey) (i : ℕ) (d : Lane) (e : Tally) (before now : Counts) (k : ℕ) → IsInStepBut before.lanes nexts i
    → (get_or before.lanes i d).cursor.state ≡ Held → IsMoreTaken stop before now i (Some k) → MoreKept nexts before now (Some k)
turn_kept stop nexts i d e before now k but held t =
    let lanes = before.lanes in
    let a = get_or lanes i d in
    let turn = t.1.1.1 d e in
    let b = turn.lane in
    let later : List Lane = set lanes i b in
    let is : now.lanes ≡ later = turn.lanes_are in
    let here : (j : ℕ) (c : Lane) → j < length lanes → Advances (get_or lanes j c) (get_or lanes j c) = λ j c lt. advances_not (get_or lanes j c) in
    record {
      parts = ap parts_of is ∙ set_parts lanes i d b but.inside turn.keeps.cpu turn.keeps.part;
      long = ap length t.1.1.0 ∙ length-set before.tallies i t.1.0;
      in_step = subst (λ (n : ℕ). IsInStepBut now.lanes nexts n) (sym t.0) (subst (λ (ks : List Lane). IsInStepBut ks nexts i) (sym is) (in_step_again lanes nexts i b but));
      advance = subst (λ (ks : List Lane). (j : ℕ) (c : Lane) → j < length lanes → Advances (get_or lanes j c) (get_or ks j c)) (sym is)
          (advances_more lanes lanes i d b refl but.inside (kept_advances a b held turn.keeps) here);
      over = subst (λ (ts : List Tally). (j : ℕ) (c : Lane) (u : Tally) → j < length lanes → IsOver (get_or lanes j c).cursor.state → get_or ts j u ≡ get_or before.tallies j u) (sym t.1.1.0)
          (over_more lanes lanes before.tallies before.tallies i d t.1.0 but.inside held here (λ j c u lt over. refl));
      unread = λ len. ap (all_unread len) is ∙ set_unread len lanes i d b but.inside (same_unread len a b turn.keeps.layout turn.keeps.part turn.keeps.state turn.keeps.next);
      most =
          let less : sum_by most_left later < sum_by most_left lanes + 1 =
          no_more (sum_by most_left lanes + 1) lanes i d b but.inside (kept_most a b turn.keeps turn.forward) (omega arith) in
          subst (λ (ks : List Lane). sum_by most_left ks ≤ sum_by most_left lanes) (sym is) (omega (arith, less));
    }

-- each of several lanes went on in its sub-buffer
record GoesOn (a b : Lane) : Type 0 where
  keeps : KeepsLane stepping a b
  at : a.cursor.at ≤ b.cursor.at

abbrev AllGoOn : List Lane → List Lane → Type 0
AllGoOn lanes now = (i : ℕ) (d : Lane) → i < length lanes → GoesOn (get_or lanes i d) (get_or now i d)

on_tail : (a b : Lane) (lanes now : List Lane) → AllGoOn (a ∷ lanes) (b ∷ now) → AllGoOn lanes now
on_tail a b lanes now h i d lt = h (suc i) d (omega (arith, lt))

record TogetherOn (lanes now : List Lane) : Type 0 where
  parts : parts_of now ≡ parts_of lanes
  unread : (len : ℕ) → all_unread len now ≡ all_unread len lanes
  most : sum_by most_left now ≤ sum_by most_left lanes

together_on : (lanes now : List Lane) → length now ≡ length lanes → AllGoOn lanes now → TogetherOn lanes now
together_on [] [] long h = record { parts = refl; unread = λ len. refl; most = omega arith }
together_on [] (b ∷ now) long h = absurd (omega (arith, long))
together_on (a ∷ lanes) [] long h = absurd (omega (arith, long))
together_on (a ∷ lanes) (b ∷ now) long h =
    let here : GoesOn a b = h zero a (omega arith) in
    let rest = together_on lanes now (omega (arith, long)) (on_tail a b lanes now h) in
    let k = here.keeps in
    record {
      parts = ap (λ (p : ℕ × Part). p ∷ parts_of now) (cc (k.cpu, k.part)) ∙ ap (λ (ps : List (ℕ × Part)). (a.cpu, a.part) ∷ ps) rest.parts;
      unread = λ len. sum_by-cons (unread len) b now ∙ ap (λ (n : ℕ). n + all_unread len now) (same_unread len a b k.layout k.part k.state k.next) ∙ ap (λ (n : ℕ). unread len a + n) (rest.unread len)
          ∙ sym (sum_by-cons (unread len) a lanes);
      most = omega (arith, kept_most a b k here.at, rest.most, sum_by-cons most_left a lanes, sum_by-cons most_left b now);
    }

used_goes : (xs : List ItemData) (a b : Lane) → IsUsed xs a b → GoesOn a b
used_goes xs a b u = record { keeps = used_keeps xs a b u; at = omega (arith, used_at xs a b u) }

used_advances : (xs : List ItemData) (a b : Lane) → IsUsed xs a b → Advances a b
used_advances xs a b (inl u) = subst (λ (c : Lane). Advances a c) (sym u.1) (advances_not a)
used_advances xs a b (inr u) = kept_advances a b (some_held a (omega (arith, u.0, ap length u.1.left, length-append xs (held_left b)))) u.1.page

not_over : (a : Lane) → IsOver a.cursor.state → a.cursor.state ≡ Held → ⊥
not_over a over held = let never : IsOver Held = subst IsOver held over in absurd never

round_kept : (stop : Option Moment) (nexts : List SlotKey) (e : Tally) (before now : Counts) → RoundTaken stop before now → MoreKept nexts before now None
round_kept stop nexts e before now t =
    let all = together_on before.lanes now.lanes t.lanes_long
    (λ i d lt. used_goes (get_or t.lists i []) (get_or before.lanes i d) (get_or now.lanes i d) (t.each i d e lt).few.used) in
    record {
      parts = all.parts;
      long = t.tallies_long;
      in_step = tt;
      advance = λ j d lt. used_advances (get_or t.lists j []) (get_or before.lanes j d) (get_or now.lanes j d) (t.each j d e lt).few.used;
      over = λ j d u lt over.
          let h = (t.each j d u lt).few in
          h.idle (none_left (get_or t.lists j []) (get_or before.lanes j d) (get_or now.lanes j d) h.used (not_over (get_or before.lanes j d) over)).0;
      unread = all.unread;
      most = all.most;
    }

pub more_kept : (stop : Option Moment) (nexts : List SlotKey) (i : ℕ) (d : Lane) (e : Tally) (before now : Counts) (used : Option ℕ) → IsInStepBut before.lanes nexts i
    → (get_or before.lanes i d).cursor.state ≡ Held → IsMoreTaken stop before now i used → MoreKept nexts before now used
more_kept stop nexts i d e before now None but held t = round_kept stop nexts e before now t
more_kept stop nexts i d e before now (Some k) but held t = turn_kept stop nexts i d e before now k but held t
