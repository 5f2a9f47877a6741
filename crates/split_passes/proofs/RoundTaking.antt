-- A round, lane after lane.
use Rattle.std.proofs.Common.{◌≡◌, ℕ, ◌+◌, ◌*◌, ◌/◌, ◌<◌, ◌≤◌, List, [], ◌∷◌, ◌++◌, length, get_or, set, sum_by, Option, Some, None, refl, sym, ap, subst, ◌∙◌, inl, inr, arith}
use Rattle.std.specs.Option.{IfSome}
use Rattle.std.proofs.lemmas.Bool.{cases_eq}
use Rattle.std.proofs.lemmas.List.{get_or-set_same, get_or-set_other, get_or_append_left, get_or_push, get_or_default, length-set, length-append}
use Rattle.std.proofs.lemmas.List.Sums.{sum_by-append}
use Rattle.std.proofs.Math.Nat.{mul-div-le, mul-le-mul_left}
use Rattle.subpage.specs.ItemData.{ItemData}
use Rattle.page_pool.specs.declared.lane.Lane.{Lane}
use Rattle.word_values.specs.declared.moment.Moment.{Moment}
use Rattle.split_pieces.specs.declared.gauge.Gauge.{Gauge}
use Rattle.split_pieces.specs.Allowing.{after_events, TakesItems}
use Rattle.split_passes.specs.declared.rounds.Reach.{Reach}
use Rattle.split_passes.specs.declared.tally.Tally.{Tally}
use Rattle.split_passes.specs.declared.taking.FoundRun.{FoundRun}
use Rattle.split_passes.specs.Rounds.{IsReach, RoundTaken, TakesUpTo}
use Rattle.split_passes.specs.Takings.{HasRun}

-- equal shares of a number are together no more than it
pub shares_fit : (lanes most events : ℕ) → most ≤ events / lanes → lanes * most ≤ events
shares_fit lanes most events le =
    let all : lanes * (events / lanes) ≤ events = mul-div-le events lanes in
    let some : lanes * most ≤ lanes * (events / lanes) = mul-le-mul_left lanes le in
    omega (arith, some, all)

-- what was found at the place of one lane stands at that of the lane with this number
pub found_of : (lanes : List Lane) (i lane : ℕ) (d a : Lane) (kept found : Option FoundRun) → IfSome found (λ run. (i ≡ lane) × (kept ≡ Some run)) → ((e : Lane) → IfSome kept (HasRun (get_or lanes lane e)))
    → a ≡ get_or lanes i d → IfSome found (HasRun a)
found_of lanes i lane d a kept None is has same = tt
found_of lanes i lane d a kept (Some run) is has same =
    let there : HasRun (get_or lanes lane d) run = subst (λ (o : Option FoundRun). IfSome o (HasRun (get_or lanes lane d))) is.1 (has d) in
    subst (λ (b : Lane). HasRun b run) (sym (same ∙ ap (λ (k : ℕ). get_or lanes k d) is.0)) there

-- The first few lanes were gone through, the others are as they were.
pub record RoundTo (until most i : ℕ) (lanes now : List Lane) (tallies tallies_now : List Tally) (count : ℕ) : Type 0 where
  pub lists : List (List ItemData)
  pub lanes_long : length now ≡ length lanes
  pub tallies_long : length tallies_now ≡ length tallies
  pub lists_long : length lists ≡ i
  pub done : (j : ℕ) (d : Lane) (t : Tally) → j < i → TakesUpTo until most (get_or lanes j d) (get_or now j d) (get_or tallies j t) (get_or tallies_now j t) (get_or lists j [])
  pub rest : (j : ℕ) (d : Lane) → i ≤ j → get_or now j d ≡ get_or lanes j d
  pub rest_tallies : (j : ℕ) (t : Tally) → i ≤ j → get_or tallies_now j t ≡ get_or tallies j t
  pub counted : count ≡ sum_by length lists
  pub few : count ≤ i * most

pub round_none : (until most : ℕ) (lanes : List Lane) (tallies : List Tally) → RoundTo until most 0 lanes lanes tallies tallies 0
round_none until most lanes tallies = record {
  lists = [];
  lanes_long = refl;
  tallies_long = refl;
  lists_long = refl;
  done = λ j d t lt. absurd (omega (arith, lt));
  rest = λ j d le. refl;
  rest_tallies = λ j t le. refl;
  counted = refl;
  few = omega arith;
}

pub round_more : (until most i : ℕ) (lanes now : List Lane) (tallies tallies_now : List Tally) (count more : ℕ) (d b : Lane) (t u : Tally) (xs : List ItemData)
    → length tallies ≡ length lanes → i < length lanes → length xs ≡ more → RoundTo until most i lanes now tallies tallies_now count
    → TakesUpTo until most (get_or now i d) b (get_or tallies_now i t) u xs → RoundTo until most (i + 1) lanes (set now i b) tallies (set tallies_now i u) (count + more)
round_more until most i lanes now tallies tallies_now count more d b t u xs long lt is r took =
    let inside : i < length now = omega (arith, lt, r.lanes_long) in
    let inside_tallies : i < length tallies_now = omega (arith, lt, long, r.tallies_long) in
    record {
      lists = r.lists ++ xs ∷ [];
      lanes_long = length-set now i b ∙ r.lanes_long;
      tallies_long = length-set tallies_now i u ∙ r.tallies_long;
      lists_long = omega (arith, length-append r.lists (xs ∷ []), r.lists_long);
      done = λ j e v less. elim (cases_eq j i) [
        | inl same ↦
            let lane : get_or (set now i b) j e ≡ b = ap (λ (k : ℕ). get_or (set now i b) k e) same ∙ get_or-set_same now i b e inside in
            let tally : get_or (set tallies_now i u) j v ≡ u = ap (λ (k : ℕ). get_or (set tallies_now i u) k v) same ∙ get_or-set_same tallies_now i u v inside_tallies in
            let list : get_or (r.lists ++ xs ∷ []) j [] ≡ xs = get_or_push r.lists xs [] j (omega (arith, r.lists_long, same)) in
            let old : get_or now i d ≡ get_or lanes j e = get_or_default now i d e inside ∙ r.rest i e (omega arith) ∙ ap (λ (k : ℕ). get_or lanes k e) (sym same) in
            let old_tally : get_or tallies_now i t ≡ get_or tallies j v = get_or_default tallies_now i t v inside_tallies ∙ r.rest_tallies i v (omega arith) ∙ ap (λ (k : ℕ). get_or tallies k v) (sym same) in
            subst (λ (zs : List ItemData). TakesUpTo until most (get_or lanes j e) (get_or (set now i b) j e) (get_or tallies j v) (get_or (set tallies_now i u) j v) zs) (sym list)
            (subst (λ (c : Tally). TakesUpTo until most (get_or lanes j e) (get_or (set now i b) j e) (get_or tallies j v) c xs) (sym tally)
            (subst (λ (c : Tally). TakesUpTo until most (get_or lanes j e) (get_or (set now i b) j e) c u xs) old_tally
            (subst (λ (c : Lane). TakesUpTo until most (get_or lanes j e) c (get_or tallies_now i t) u xs) (sym lane)
            (subst (λ (c : Lane). TakesUpTo until most c b (get_or tallies_now i t) u xs) old took))))
        | inr other ↦
            let before : j < i = omega (arith, less, other) in
            subst (λ (zs : List ItemData). TakesUpTo until most (get_or lanes j e) (get_or (set now i b) j e) (get_or tallies j v) (get_or (set tallies_now i u) j v) zs) (sym (get_or_append_left r.lists (xs ∷ []) [] j (omega (arith, before, r.lists_long))))
            (subst (λ (c : Tally). TakesUpTo until most (get_or lanes j e) (get_or (set now i b) j e) (get_or tallies j v) c (get_or r.lists j [])) (sym (get_or-set_other tallies_now i j u v other))
            (subst (λ (c : Lane). TakesUpTo until most (get_or lanes j e) c (get_or tallies j v) (get_or tallies_now j v) (get_or r.lists j [])) (sym (get_or-set_other now i j b e other)) (r.done j e v before)))
      ];
      rest = λ j e le. get_or-set_other now i j b e (λ same. omega (arith, le, same)) ∙ r.rest j e (omega (arith, le));
      rest_tallies = λ j v le. get_or-set_other tallies_now i j u v (λ same. omega (arith, le, same)) ∙ r.rest_tallies j v (omega (arith, le));
      counted = omega (arith, r.counted, is, one xs, sum_by-append length r.lists (xs ∷ []));
      few = omega (arith, r.few, is, took.long);
    }
  where
    one : (zs : List ItemData) → sum_by length (zs ∷ []) ≡ length zs
    one zs = omega arith

-- All lanes were, and the number is that of the items of all lists.
pub round_done : (stop : Option Moment) (gauge gauge_now : Gauge) (lanes now : List Lane) (tallies tallies_now : List Tally) (i count : ℕ) (reach : Reach)
    → i ≡ length lanes → IsReach stop gauge lanes reach → RoundTo reach.until reach.most i lanes now tallies tallies_now count → gauge_now ≡ after_events gauge count
    → (taken : RoundTaken stop (record { gauge = gauge; lanes = lanes; tallies = tallies }) (record { gauge = gauge_now; lanes = now; tallies = tallies_now }))
    × (count ≡ sum_by length taken.lists)
round_done stop gauge gauge_now lanes now tallies tallies_now i count reach all reaches r is = (
  record {
    until = reach.until;
    most = reach.most;
    lists = r.lists;
    lanes_long = r.lanes_long;
    tallies_long = r.tallies_long;
    each = λ j d t lt. r.done j d t (omega (arith, lt, all));
    lists_long = r.lists_long ∙ all;
    takes = λ xs events long.
        let many : length xs ≡ count = long ∙ sym r.counted in
        let le : length xs ≤ length lanes * reach.most = few_all (length xs) many in
        subst (λ (g : Gauge). TakesItems gauge g xs) (ap (after_events gauge) many ∙ sym is) (reaches.takes xs events le);
    inside = reaches.inside;
  },
  r.counted,
)
  where
    few_all : (n : ℕ) → n ≡ count → n ≤ length lanes * reach.most
    few_all n many = subst (λ (m : ℕ). n ≤ m * reach.most) all (omega (arith, r.few, many))
