-- What a round takes of one lane.
use Rattle.std.proofs.Common.{◌≡◌, ℕ, ◌+◌, ◌<◌, ◌≤◌, max, leb, Bool, true, false, List, [], ◌∷◌, ◌++◌, length, map, Option, Some, None, refl, sym, ap, subst, ◌∙◌, append_assoc, append-nil, inl, inr, arith}
use Rattle.std.specs.Option.{unwrap_or, option_map}
use Rattle.std.specs.List.{All, fold}
use Rattle.std.proofs.lemmas.Bool.{leb-true, leb-false}
use Rattle.std.proofs.lemmas.List.{length-append, map-append}
use Rattle.std.proofs.lemmas.List.Elements.{All-nil, All-cons, All-head, All-tail, All-append}
use Rattle.trace_base.specs.declared.layout.Layout.{Layout}
use Rattle.subpage.specs.ItemData.{ItemData, item_time}
use Rattle.subpage.specs.Arrangement.{Keyed, key_of, keyed_from}
use Rattle.page_pool.specs.declared.lane.Lane.{Lane}
use Rattle.page_pool.specs.declared.cursor.LaneState.{LaneState}
use Rattle.page_pool.specs.declared.cursor.LaneState.TheVariants.{Fresh, Held, Ended, Malformed}
use Rattle.page_pool.specs.Keeping.{KeepsLane, stepping}
use Rattle.page_pool.proofs.Keeping.{lane_kept, lane_still}
use Rattle.event_cursor.specs.Keys.{first_of, key_behind, keyed_behind}
use Rattle.event_cursor.specs.Standing.{held_left, if_held, keyed_held}
use Rattle.event_cursor.specs.Stepping.{IsSteppedOver}
use Rattle.time_merge.specs.LaneRows.{IsReady, IsReadyIn, next_of, next_in}
use Rattle.time_merge.specs.Rows.{NotBefore}
use Rattle.time_merge.specs.Turns.{keyed_used}
use Rattle.time_merge.proofs.Readying.{some_key}
use Rattle.split_passes.specs.declared.tally.Tally.{Tally}
use Rattle.split_passes.specs.Rounds.{ComesBy, HeadTaken, IsEventItem, IsSomeTaken, IsUsed, ReachesPast, ReachesPastIn, TakesFew, TakesUpTo}
use Rattle.split_passes.specs.Choices.{Counting}
use Rattle.split_passes.specs.Takings.{IsRunTaken, TakesRun}
use Rattle.split_passes.specs.Tallies.{IsTally}

-- THE NEXT ITEM

pub comes_not : (until : ℕ) (a : Lane) → None ≡ option_map key_of (first_of (keyed_held a)) → ComesBy until a false
comes_not until a none x first = let never : None ≡ Some x.key = none ∙ ap (option_map key_of) first in absurd cc

key_is : (o : Option Keyed) (key : ℕ) → Some key ≡ option_map key_of o → (x : Keyed) × ((o ≡ Some x) × (x.key ≡ key))
key_is None key e = absurd cc
key_is (Some x) key e = let same : x.key ≡ key = cc in (x, (refl, same))

pub comes_by : (until : ℕ) (a : Lane) (key : ℕ) → Some key ≡ option_map key_of (first_of (keyed_held a)) → ComesBy until a (leb key until)
comes_by until a key is = by (leb key until) refl
  where
    by : (b : Bool) → leb key until ≡ b → ComesBy until a b
    by true e =
        let x = key_is (first_of (keyed_held a)) key is in
        let le : key ≤ until = leb-true key until e in
        (x.0, (x.1.0, omega (arith, x.1.1, le)))
    by false e = λ x first.
        let more : until < key = leb-false key until e in
        let same : Some key ≡ Some x.key = is ∙ ap (option_map key_of) first in
        let key_same : key ≡ x.key = cc in
        omega (arith, more, key_same)

state_of : (s : LaneState) (xs : List ItemData) → 0 < length (if_held s xs) → s ≡ Held
state_of Fresh xs some = absurd (omega (arith, some))
state_of Held xs some = refl
state_of Ended xs some = absurd (omega (arith, some))
state_of Malformed xs some = absurd (omega (arith, some))

-- a lane with a next item holds a sub-buffer
pub comes_some : (until : ℕ) (a : Lane) → ComesBy until a true → 0 < length (held_left a)
comes_some until a c = some_key a.cpu a.cursor.high (held_left a) c.0.key (sym (ap (option_map key_of) c.1.0))

pub some_held : (a : Lane) → 0 < length (held_left a) → a.cursor.state ≡ Held
some_held a some = state_of a.cursor.state _ some

-- ITEMS THAT ARE USED

fold_over : (high : ℕ) (xs ys : List ℕ) → fold max high (xs ++ ys) ≡ fold max (fold max high xs) ys
fold_over high [] ys = refl
fold_over high (x ∷ xs) ys = fold_over (max high x) xs ys

keyed_parts : (cpu high : ℕ) (xs ys : List ItemData) → keyed_from cpu high (xs ++ ys) ≡ keyed_from cpu high xs ++ keyed_from cpu (fold max high (map item_time xs)) ys
keyed_parts cpu high [] ys = refl
keyed_parts cpu high (x ∷ xs) ys = ap (λ (zs : List Keyed). record { key = max high (item_time x); cpu = cpu; item = x } ∷ zs) (keyed_parts cpu (max high (item_time x)) xs ys)

over_twice : (xs ys : List ItemData) (a b c : Lane) → IsSteppedOver xs a b → IsSteppedOver ys b c → IsSteppedOver (xs ++ ys) a c
over_twice xs ys a b c s t =
    let high = unwrap_or a.cursor.high 0 in
    let mid : unwrap_or b.cursor.high 0 ≡ fold max high (map item_time xs) = ap (λ (o : Option ℕ). unwrap_or o 0) s.high in
    record {
      left = s.left ∙ ap (λ (zs : List ItemData). xs ++ zs) t.left ∙ sym (append_assoc xs ys (held_left c));
      high = t.high ∙ ap (λ (n : ℕ). Some (fold max n (map item_time ys))) mid ∙ ap (λ (n : ℕ). Some n) (sym (fold_over high (map item_time xs) (map item_time ys)))
          ∙ ap (λ (ns : List ℕ). Some (fold max high ns)) (sym (map-append item_time xs ys));
      at = t.at ∙ ap (λ (n : ℕ). n + length ys) s.at ∙ (let e : (a.cursor.at + length xs) + length ys ≡ a.cursor.at + length (xs ++ ys) = omega (arith, length-append xs ys) in e);
      page = lane_kept s.page t.page;
    }

pub used_twice : (xs ys : List ItemData) (a b c : Lane) → IsUsed xs a b → IsUsed ys b c → IsUsed (xs ++ ys) a c
used_twice xs ys a b c (inl u) (inl v) = inl (ap (λ (zs : List ItemData). zs ++ ys) u.0 ∙ v.0, v.1 ∙ u.1)
used_twice xs ys a b c (inl u) (inr v) =
    let same : xs ++ ys ≡ ys = ap (λ (zs : List ItemData). zs ++ ys) u.0 in
    inr (omega (arith, v.0, length-append xs ys), subst (λ (zs : List ItemData). IsSteppedOver zs a c) (sym same) (subst (λ (d : Lane). IsSteppedOver ys d c) u.1 v.1))
used_twice xs ys a b c (inr u) (inl v) =
    let same : xs ++ ys ≡ xs = ap (λ (zs : List ItemData). xs ++ zs) v.0 ∙ append-nil xs in
    inr (omega (arith, u.0, length-append xs ys), subst (λ (zs : List ItemData). IsSteppedOver zs a c) (sym same) (subst (λ (d : Lane). IsSteppedOver xs a d) (sym v.1) u.1))
used_twice xs ys a b c (inr u) (inr v) = inr (omega (arith, u.0, length-append xs ys), over_twice xs ys a b c u.1 v.1)

-- what is used of a lane leaves it in its sub-buffer
pub used_keeps : (xs : List ItemData) (a b : Lane) → IsUsed xs a b → KeepsLane stepping a b
used_keeps xs a b (inl u) = subst (λ (c : Lane). KeepsLane stepping a c) (sym u.1) (lane_still stepping a)
used_keeps xs a b (inr u) = u.1.page

pub used_left : (xs : List ItemData) (a b : Lane) → IsUsed xs a b → held_left a ≡ xs ++ held_left b
used_left xs a b (inl u) = ap held_left (sym u.1) ∙ ap (λ (zs : List ItemData). zs ++ held_left b) (sym u.0)
used_left xs a b (inr u) = u.1.left

pub used_at : (xs : List ItemData) (a b : Lane) → IsUsed xs a b → b.cursor.at ≡ a.cursor.at + length xs
used_at xs a b (inl u) = ap (λ (c : Lane). c.cursor.at) u.1 ∙ (let e : a.cursor.at ≡ a.cursor.at + length xs = omega (arith, ap length u.0) in e)
used_at xs a b (inr u) = u.1.at

pub used_high : (xs : List ItemData) (a b : Lane) → IsUsed xs a b → unwrap_or b.cursor.high 0 ≡ fold max (unwrap_or a.cursor.high 0) (map item_time xs)
used_high xs a b (inl u) = ap (λ (c : Lane). unwrap_or c.cursor.high 0) u.1 ∙ ap (λ (zs : List ItemData). fold max (unwrap_or a.cursor.high 0) (map item_time zs)) (sym u.0)
used_high xs a b (inr u) = ap (λ (o : Option ℕ). unwrap_or o 0) u.1.high

pub used_keys : (xs ys : List ItemData) (a b : Lane) → IsUsed xs a b → keyed_used a (xs ++ ys) ≡ keyed_used a xs ++ keyed_used b ys
used_keys xs ys a b u =
    keyed_parts a.cpu (unwrap_or a.cursor.high 0) xs ys
    ∙ ap (λ (n : ℕ). keyed_used a xs ++ keyed_from a.cpu n ys) (sym (used_high xs a b u))
    ∙ ap (λ (n : ℕ). keyed_used a xs ++ keyed_from n (unwrap_or b.cursor.high 0) ys) (sym (used_keeps xs a b u).cpu)

empty_right : (xs ys : List ItemData) → xs ++ ys ≡ [] → ys ≡ []
empty_right [] ys e = e
empty_right (x ∷ xs) ys e = absurd cc

empty_left : (xs ys : List ItemData) → xs ++ ys ≡ [] → xs ≡ []
empty_left [] ys e = refl
empty_left (x ∷ xs) ys e = absurd cc

pub few_none : (until : ℕ) (a : Lane) (tally : Tally) → TakesFew until a a tally tally []
few_none until a tally = record {
  used = inl (refl, refl);
  up_to = All-nil (λ x. x.key ≤ until);
  tallied = λ ys t. subst (IsTally a.layout tally) (sym (append-nil ys)) t;
  idle = λ e. refl;
}

pub few_twice : (until : ℕ) (a b c : Lane) (t u v : Tally) (xs ys : List ItemData) → TakesFew until a b t u xs → TakesFew until b c u v ys → TakesFew until a c t v (xs ++ ys)
few_twice until a b c t u v xs ys f g = record {
  used = used_twice xs ys a b c f.used g.used;
  up_to = subst (All (λ x. x.key ≤ until)) (sym (used_keys xs ys a b f.used)) (All-append (λ x. x.key ≤ until) (keyed_used a xs) (keyed_used b ys) f.up_to g.up_to);
  tallied = λ zs h.
      let counts : (ws : List ItemData) → IsTally a.layout u ws → IsTally a.layout v (ws ++ ys) =
      subst (λ (l : Layout). (ws : List ItemData) → IsTally l u ws → IsTally l v (ws ++ ys)) (used_keeps xs a b f.used).layout g.tallied in
      subst (IsTally a.layout v) (append_assoc zs xs ys) (counts (zs ++ xs) (f.tallied zs h));
  idle = λ e. g.idle (empty_right xs ys e) ∙ f.idle (empty_left xs ys e);
}

-- the next item
pub few_head : (until : ℕ) (a b : Lane) (t u : Tally) → ComesBy until a true → (h : HeadTaken a b t u) → TakesFew until a b t u (h.stepped.first ∷ [])
few_head until a b t u c h =
    let s = h.stepped in
    let first : first_of (keyed_behind a.cpu a.cursor.high (s.first ∷ held_left b)) ≡ Some c.0 = ap (λ (xs : List ItemData). first_of (keyed_behind a.cpu a.cursor.high xs)) (sym s.left) ∙ c.1.0 in
    let is : record { key = key_behind a.cursor.high s.first; cpu = a.cpu; item = s.first } ≡ c.0 = cc in
    let key : key_behind a.cursor.high s.first ≡ c.0.key = ap key_of is in
    record {
      used = inr (omega arith, record { left = s.left; high = s.high; at = s.at; page = s.page });
      up_to = All-cons (λ x. x.key ≤ until) _ [] (omega (arith, key, c.1.1)) (All-nil (λ x. x.key ≤ until));
      tallied = h.tallied;
      idle = λ e. absurd cc;
    }

-- a run
pub few_run : (until : ℕ) (before now : Counting) (a b : Lane) → (r : TakesRun None until before now a b) → TakesFew until a b before.tally now.tally r.items
few_run until before now a b r = record {
  used = inr (r.some, r.over);
  up_to = r.up_to;
  tallied = r.tallied;
  idle = λ e. absurd (omega (arith, r.some, ap length e));
}

-- THE WHOLE LANE

record Front (xs front : List ItemData) : Type 0 where
  rest : List ItemData
  is : front ≡ xs ++ rest

-- where an item is later than those that were taken, these stand before it
before_later : (cpu high until : ℕ) (xs ys front rest : List ItemData) (item : ItemData) → front ++ item ∷ rest ≡ xs ++ ys → until < max high (item_time item) → All (λ x. x.key ≤ until) (keyed_from cpu high xs) → Front xs front
before_later cpu high until [] ys front rest item e late up = record { rest = front; is = refl }
before_later cpu high until (x ∷ xs) ys [] rest item e late up =
    let same : item ≡ x = cc in
    let key : max high (item_time x) ≤ until = All-head (λ (y : Keyed). y.key ≤ until) _ (keyed_from cpu (max high (item_time x)) xs) up in
    let time : item_time item ≡ item_time x = ap item_time same in
    absurd (omega (arith, late, key, time))
before_later cpu high until (x ∷ xs) ys (f ∷ front) rest item e late up =
    let same : f ≡ x = cc in
    let more : front ++ item ∷ rest ≡ xs ++ ys = cc in
    let r = before_later cpu (max high (item_time x)) until xs ys front rest item more (omega (arith, late)) (All-tail (λ (y : Keyed). y.key ≤ until) _ (keyed_from cpu (max high (item_time x)) xs) up) in
    record { rest = r.rest; is = ap (λ (zs : List ItemData). f ∷ zs) r.is ∙ ap (λ (z : ItemData). z ∷ (xs ++ r.rest)) same }

events_front : (xs rest : List ItemData) → All IsEventItem (xs ++ rest) → All IsEventItem xs
events_front [] rest all = All-nil IsEventItem
events_front (x ∷ xs) rest all = All-cons IsEventItem x xs (All-head IsEventItem x (xs ++ rest) all) (events_front xs rest (All-tail IsEventItem x (xs ++ rest) all))

next_held : (cpu until : ℕ) (high : Option ℕ) (xs : List ItemData) → ((x : Keyed) → first_of (keyed_behind cpu high xs) ≡ Some x → until < x.key) → NotBefore (until + 2) (next_in Held high (keyed_behind cpu high xs))
next_held cpu until high [] later = tt
next_held cpu until high (x ∷ xs) later = omega (arith, later (record { key = key_behind high x; cpu = cpu; item = x }) refl)

pub none_left : (xs : List ItemData) (a b : Lane) → IsUsed xs a b → (a.cursor.state ≡ Held → ⊥) → (xs ≡ []) × (b ≡ a)
none_left xs a b (inl u) not = u
none_left xs a b (inr u) not = absurd (not (some_held a (omega (arith, u.0, ap length u.1.left, length-append xs (held_left b)))))

-- all of a lane was taken
pub lane_taken : (until most : ℕ) (a b : Lane) (t u : Tally) (xs : List ItemData) → TakesFew until a b t u xs → ComesBy until b false → ReachesPast until most a → TakesUpTo until most a b t u xs
lane_taken until most a b t u xs f ends reach = by_state a.cursor.state refl reach
  where
    still : (s : LaneState) → a.cursor.state ≡ s → (s ≡ Held → ⊥) → IsReadyIn s (held_left a) → NotBefore (until + 2) (next_in s a.cursor.high (keyed_held a)) → TakesUpTo until most a b t u xs
    still s is not ready later =
        let none = none_left xs a b f.used (λ e. not (sym is ∙ e)) in
        let ready_a : IsReady a = subst (λ (r : LaneState). IsReadyIn r (held_left a)) (sym is) ready in
        let later_a : NotBefore (until + 2) (next_of a) = subst (λ (r : LaneState). NotBefore (until + 2) (next_in r a.cursor.high (keyed_held a))) (sym is) later in
        record {
          few = f;
          events = subst (All IsEventItem) (sym none.0) (All-nil IsEventItem);
          long = omega (arith, ap length none.0);
          ready = subst IsReady (sym none.1) ready_a;
          later = subst (λ (c : Lane). NotBefore (until + 2) (next_of c)) (sym none.1) later_a;
        }

    by_state : (s : LaneState) → a.cursor.state ≡ s → ReachesPastIn s until most a → TakesUpTo until most a b t u xs
    by_state Fresh is h = absurd h
    by_state Held is h =
        let left : h.front ++ h.item ∷ h.rest ≡ xs ++ held_left b = sym h.held ∙ used_left xs a b f.used in
        let front = before_later a.cpu (unwrap_or a.cursor.high 0) until xs (held_left b) h.front h.rest h.item left h.later f.up_to in
        let short : length xs ≤ length h.front = omega (arith, ap length front.is, length-append xs front.rest) in
        let some : 0 < length (held_left b) = omega (arith, short, ap length left, length-append h.front (h.item ∷ h.rest), length-append xs (held_left b)) in
        let state : b.cursor.state ≡ Held = (used_keeps xs a b f.used).state ∙ is in
        record {
          few = f;
          events = events_front xs front.rest (subst (All IsEventItem) front.is h.events);
          long = omega (arith, short, h.few);
          ready = subst (λ (r : LaneState). IsReadyIn r (held_left b)) (sym state) some;
          later = subst (λ (r : LaneState). NotBefore (until + 2) (next_in r b.cursor.high (keyed_held b))) (sym state) (next_held b.cpu until b.cursor.high (held_left b) ends);
        }
    by_state Ended is h = still Ended is (λ e. let never : Ended ≡ Held = e in absurd cc) tt tt
    by_state Malformed is h = still Malformed is (λ e. let never : Malformed ≡ Held = e in absurd cc) tt (subst (λ (r : LaneState). NotBefore (until + 2) (next_in r a.cursor.high (keyed_held a))) is h)

-- SOME OF A LANE

-- a run, and the next item where it is not later
pub some_taken : (until : ℕ) (before mid : Counting) (a b c : Lane) (u : Tally) → ComesBy until a true → IsRunTaken None until before mid a b → ComesBy until b true → HeadTaken b c mid.tally u → IsSomeTaken until a c before.tally u
some_taken until before mid a b c u comes (inl none) again head =
    let one = few_head until b c mid.tally u again head in
    (head.stepped.first ∷ [], (omega arith, subst (λ (d : Lane). TakesFew until d c before.tally u (head.stepped.first ∷ [])) none.still (subst (λ (t : Tally). TakesFew until b c t u (head.stepped.first ∷ [])) none.tally one)))
some_taken until before mid a b c u comes (inr run) again head = (
  run.items ++ head.stepped.first ∷ [],
  (
    omega (arith, run.some, length-append run.items (head.stepped.first ∷ [])),
    few_twice until a b c before.tally mid.tally u run.items (head.stepped.first ∷ []) (few_run until before mid a b run) (few_head until b c mid.tally u again head),
  ),
)

-- a run alone
pub run_taken_alone : (until : ℕ) (before now : Counting) (a b : Lane) → ComesBy until a true → IsRunTaken None until before now a b → ComesBy until b false → IsSomeTaken until a b before.tally now.tally
run_taken_alone until before now a b comes (inl none) ends =
    let same : first_of (keyed_held b) ≡ first_of (keyed_held a) = ap (λ (d : Lane). first_of (keyed_held d)) none.still in
    absurd (omega (arith, comes.1.1, ends comes.0 (same ∙ comes.1.0)))
run_taken_alone until before now a b comes (inr run) ends = (run.items, (run.some, few_run until before now a b run))

-- what is left of the held sub-buffer gets less
pub some_less : (until : ℕ) (a b : Lane) (t u : Tally) → IsSomeTaken until a b t u → length (held_left b) < length (held_left a)
some_less until a b t u s = omega (arith, s.1.0, ap length (used_left s.0 a b s.1.1.used), length-append s.0 (held_left b))
