-- The pass finds the pairs.
use Rattle.std.proofs.Common.{◌≡◌, ◌≢◌, ℕ, ℤ, ◌+◌, ◌<◌, ◌≤◌, ◌⊎◌, true, false, cond, List, [], ◌∷◌, ◌++◌, length, Option, Some, None, Contains, fold, refl, sym, ap, ◌∙◌, subst, inl, inr, true≢false, append_assoc, append-nil, arith}
use Rattle.std.specs.List.{AllZip}
use Rattle.std.specs.Ordering.{int_cmp, eq_by_cmp, is_eq}
use Rattle.std.specs.declared.cmp.Ordering.{Ordering}
use Rattle.std.specs.declared.cmp.Ordering.TheVariants.{Less, Equal, Greater}
use Rattle.std.specs.Cmp.{int_cmp_total, eq_by_cmp_equiv}
use Rattle.std.specs.FinMap.{empty, get, insert, remove, get-insert, get-remove, get-empty, int_cmp-IsAntisymmetric}
use Rattle.std.proofs.lemmas.Bool.{cases_eq}
use Rattle.std.proofs.lemmas.Option.{slice_get_within, none-some}
use Rattle.std.proofs.lemmas.List.Elements.{Contains-append_left, Contains-push}
use Rattle.wakeup_pairs.specs.declared.wakeup_item.Pair.{Pair}
use Rattle.wakeup_pairs.specs.declared.wakeup_item.Switch.{Switch}
use Rattle.wakeup_pairs.specs.declared.wakeup_item.Wake.{Wake}
use Rattle.wakeup_pairs.specs.declared.wakeup_item.WakeupItem.{WakeupItem}
use Rattle.wakeup_pairs.specs.declared.wakeup_item.WakeupItem.TheVariants.{Wakes, Switches, Lost, Other}
use Rattle.wakeup_pairs.specs.Pairs.{IsQuiet, WaitsFrom, IsPaired, IsPairAt, pair_of, RiseFrom, ArePairs}
use Rattle.wakeup_pairs.specs.Gathered.{Gathered, none_gathered, and_woken, and_switched, and_seen, gathered}
use Rattle.wakeup_pairs.proofs.Partners.{one_wake}
use Rattle.wakeup_pairs.proofs.Places.{length_more, waits_more, waits_new, waits_back, paired_down, paired_within, paired_last, pair_up, pair_last, same_switch, same_wake}

-- two tasks are one or not, as the map's order tells them apart
tasks : (a b : ℤ) → ((eq_by_cmp int_cmp a b ≡ true) × (a ≡ b)) ⊎ ((eq_by_cmp int_cmp a b ≡ false) × (a ≢ b))
tasks a b =
    let refuted : (r : Ordering) → int_cmp a b ≡ r → is_eq r ≡ false → a ≢ b =
    λ r e f same. true≢false (sym (subst (λ z. is_eq (int_cmp a z) ≡ true) same ((eq_by_cmp_equiv int_cmp_total).refl a)) ∙ ap is_eq e ∙ f) in
    elim (int_cmp a b) as (λ r. int_cmp a b ≡ r → ((is_eq r ≡ true) × (a ≡ b)) ⊎ ((is_eq r ≡ false) × (a ≢ b))) [
      | Less ↦ λ e. inr (refl, refuted Less e refl)
      | Equal ↦ λ e. inl (refl, int_cmp-IsAntisymmetric a b e)
      | Greater ↦ λ e. inr (refl, refuted Greater e refl)
    ] refl

-- The first place from which the task waits, and its time.
record FirstWaits (xs : List WakeupItem) (n : ℕ) (task : ℤ) (time : ℕ) : Type 0 where
  i : ℕ
  waits : WaitsFrom xs task i n
  time_is : waits.wake.time ≡ time
  first : (h : ℕ) → WaitsFrom xs task h n → i ≤ h

abbrev IsFirst : List WakeupItem → ℕ → ℤ → Option ℕ → Type 0
IsFirst xs n task None = (i : ℕ) → WaitsFrom xs task i n → ⊥
IsFirst xs n task (Some time) = FirstWaits xs n task time

record IsState (xs : List WakeupItem) (g : Gathered) : Type 0 where
  waits : (task : ℤ) → IsFirst xs (length xs) task (get g.waiting task)
  pairs : ArePairs xs g.pairs

module _ (xs : List WakeupItem) (x : WakeupItem) where
  keeps_none : {task : ℤ} → ((wake : Wake) → x ≡ Wakes wake → wake.task ≢ task) → IsFirst xs (length xs) task None → IsFirst (xs ++ x ∷ []) (length xs + 1) task None
  keeps_none {task} other h i w = elim (waits_back xs x w) [
    | inl old ↦ h i old.0
    | inr new ↦ other new.1.0 new.1.1 new.1.2
  ]

  keeps_some : {task : ℤ} {time : ℕ} → IsQuiet task x → FirstWaits xs (length xs) task time → FirstWaits (xs ++ x ∷ []) (length xs + 1) task time
  unfolding waits_more
  keeps_some {task} {time} q f = record {
    i = f.i;
    waits = waits_more xs x f.waits q;
    time_is = f.time_is;
    first = λ h w. elim (waits_back xs x w) [
      | inl old ↦ f.first h old.0
      | inr new ↦ omega (arith, new.0, f.waits.before)
    ];
  }

  keeps : {task : ℤ} (o : Option ℕ) → IsQuiet task x → ((wake : Wake) → x ≡ Wakes wake → wake.task ≢ task) → IsFirst xs (length xs) task o → IsFirst (xs ++ x ∷ []) (length xs + 1) task o
  keeps None q other h = keeps_none other h
  keeps (Some time) q other h = keeps_some q h

  begins : (wake : Wake) (task : ℤ) → x ≡ Wakes wake → wake.task ≡ task → IsFirst xs (length xs) task None → FirstWaits (xs ++ x ∷ []) (length xs + 1) task wake.time
  unfolding waits_new
  begins wake task is same h = record {
    i = length xs;
    waits = waits_new xs x wake task is same;
    time_is = refl;
    first = λ k w. elim (waits_back xs x w) [
      | inl old ↦ absurd (h k old.0)
      | inr new ↦ omega (arith, new.0)
    ];
  }

  ends : (task : ℤ) → (IsQuiet task x → ⊥) → ((wake : Wake) → x ≡ Wakes wake → ⊥) → IsFirst (xs ++ x ∷ []) (length xs + 1) task None
  ends task loud other i w = elim (waits_back xs x w) [
    | inl old ↦ loud old.1
    | inr new ↦ other new.1.0 new.1.1
  ]

  each_up : (places : List (ℕ × ℕ)) (pairs : List Pair) → AllZip (IsPairAt xs) places pairs → AllZip (IsPairAt (xs ++ x ∷ [])) places pairs
  each_up [] [] h = tt
  each_up [] (q ∷ qs) h = absurd h
  each_up (p ∷ ps) [] h = absurd h
  each_up (p ∷ ps) (q ∷ qs) h = (pair_up xs x p q h.0, each_up ps qs h.1)

  each_more : (place : ℕ × ℕ) (pair : Pair) → IsPairAt (xs ++ x ∷ []) place pair → (places : List (ℕ × ℕ)) (pairs : List Pair)
      → AllZip (IsPairAt xs) places pairs → AllZip (IsPairAt (xs ++ x ∷ [])) (places ++ place ∷ []) (pairs ++ pair ∷ [])
  each_more place pair p [] [] h = (p, tt)
  each_more place pair p [] (q ∷ qs) h = absurd h
  each_more place pair p (l ∷ ls) [] h = absurd h
  each_more place pair p (l ∷ ls) (q ∷ qs) h = (pair_up xs x l q h.0, each_more place pair p ls qs h.1)

  rise_more : (i n : ℕ) (places : List (ℕ × ℕ)) (pairs : List Pair) → n ≤ length xs → RiseFrom n places → AllZip (IsPairAt xs) places pairs → RiseFrom n (places ++ (i, length xs) ∷ [])
  rise_more i n [] pairs le r h = (le, tt)
  rise_more i n (p ∷ ps) [] le r h = absurd h
  rise_more i n (p ∷ ps) (q ∷ qs) le r h =
      let lt : p.1 < length xs = slice_get_within xs p.1 (Switches h.0.paired.switch) h.0.paired.there in
      (r.0, rise_more i (p.1 + 1) ps qs (omega arith) r.1 h.1)

  pairs_same : (pairs : List Pair) → ((i : ℕ) → IsPaired (xs ++ x ∷ []) i (length xs) → ⊥) → ArePairs xs pairs → ArePairs (xs ++ x ∷ []) pairs
  pairs_same pairs none h = record {
    places = h.places;
    rise = h.rise;
    each = each_up h.places pairs h.each;
    all = λ i j p. elim (cases_eq j (length xs)) [
      | inl e ↦ absurd (none i (subst (λ n. IsPaired (xs ++ x ∷ []) i n) e p))
      | inr other ↦ h.all i j (paired_down xs x (omega (arith, other, paired_within xs x p)) p)
    ];
  }

  pairs_more : (pairs : List Pair) (switch : Switch) (time : ℕ) → x ≡ Switches switch → FirstWaits xs (length xs) switch.task time
      → ArePairs xs pairs → ArePairs (xs ++ x ∷ []) (pairs ++ pair_of time switch ∷ [])
  pairs_more pairs switch time is f h =
      let new : IsPairAt (xs ++ x ∷ []) (f.i, length xs) (pair_of time switch) =
      subst (λ t. IsPairAt (xs ++ x ∷ []) (f.i, length xs) (pair_of t switch)) f.time_is (pair_last xs x switch is f.i f.waits f.first) in
      record {
        places = h.places ++ (f.i, length xs) ∷ [];
        rise = rise_more f.i 0 h.places pairs (omega arith) h.rise h.each;
        each = each_more (f.i, length xs) (pair_of time switch) new h.places pairs h.each;
        all = λ i j p. elim (cases_eq j (length xs)) [
          | inl e ↦
              let here : f.i ≡ i = one_wake (xs ++ x ∷ []) f.i i (length xs) new.paired (subst (λ n. IsPaired (xs ++ x ∷ []) i n) e p) in
              subst (λ (q : ℕ × ℕ). Contains (h.places ++ (f.i, length xs) ∷ []) q) (λ n. (here n, sym e n)) (Contains-push h.places (f.i, length xs))
          | inr other ↦ Contains-append_left h.places ((f.i, length xs) ∷ []) (i, j) (h.all i j (paired_down xs x (omega (arith, other, paired_within xs x p)) p))
        ];
      }

wake_same : (a b : Wake) → Wakes a ≡ Wakes b → a ≡ b
wake_same a b e = same_wake (Some (Wakes b)) a b (ap (λ (z : WakeupItem). Some z) (sym e)) refl

-- which of the four something is
not_a_switch : WakeupItem → Type 0
not_a_switch (Wakes wake) = Unit {0}
not_a_switch (Switches switch) = ⊥
not_a_switch Lost = Unit {0}
not_a_switch Other = Unit {0}

not_a_wake : WakeupItem → Type 0
not_a_wake (Wakes wake) = ⊥
not_a_wake (Switches switch) = Unit {0}
not_a_wake Lost = Unit {0}
not_a_wake Other = Unit {0}

no_switch : (x : WakeupItem) → not_a_switch x → (switch : Switch) → x ≡ Switches switch → ⊥
unfolding not_a_switch
no_switch x n switch e = subst not_a_switch e n

no_wake : (x : WakeupItem) → not_a_wake x → (wake : Wake) → x ≡ Wakes wake → ⊥
unfolding not_a_wake
no_wake x n wake e = subst not_a_wake e n

no_pair : (xs : List WakeupItem) (x : WakeupItem) → ((switch : Switch) → x ≡ Switches switch → ⊥) → (i : ℕ) → IsPaired (xs ++ x ∷ []) i (length xs) → ⊥
no_pair xs x other i p = let l = paired_last xs x p in other l.0 l.1

longer : (xs : List WakeupItem) (x : WakeupItem) (task : ℤ) (o : Option ℕ) → IsFirst (xs ++ x ∷ []) (length xs + 1) task o → IsFirst (xs ++ x ∷ []) (length (xs ++ x ∷ [])) task o
longer xs x task o h = subst (λ n. IsFirst (xs ++ x ∷ []) n task o) (sym (length_more xs x)) h

and_wake : (xs : List WakeupItem) (g : Gathered) (wake : Wake) → IsState xs g → (o : Option ℕ) → get g.waiting wake.task ≡ o → IsState (xs ++ Wakes wake ∷ []) (and_woken o g wake)
unfolding not_a_switch
and_wake xs g wake s None e = record {
  waits = λ task. longer xs (Wakes wake) task (get (insert g.waiting wake.task wake.time) task)
      (subst (IsFirst (xs ++ Wakes wake ∷ []) (length xs + 1) task) (sym (get-insert int_cmp_total g.waiting wake.task wake.time task))
      (elim (tasks task wake.task) [
        | inl (t, same) ↦ subst (λ b. IsFirst (xs ++ Wakes wake ∷ []) (length xs + 1) task (cond b (Some wake.time) (get g.waiting task))) (sym t)
            (begins xs (Wakes wake) wake task refl (sym same) (subst (IsFirst xs (length xs) task) (ap (get g.waiting) same ∙ e) (s.waits task)))
        | inr (f, other) ↦ subst (λ b. IsFirst (xs ++ Wakes wake ∷ []) (length xs + 1) task (cond b (Some wake.time) (get g.waiting task))) (sym f)
            (keeps xs (Wakes wake) (get g.waiting task) tt (λ w is same. other (sym same ∙ ap (λ (v : Wake). v.task) (wake_same w wake (sym is)))) (s.waits task))
      ]));
  pairs = pairs_same xs (Wakes wake) g.pairs (no_pair xs (Wakes wake) (no_switch (Wakes wake) tt)) s.pairs;
}
and_wake xs g wake s (Some first) e = record {
  waits = λ task. longer xs (Wakes wake) task (get g.waiting task) (elim (tasks task wake.task) [
    | inl (t, same) ↦
        let o : get g.waiting task ≡ Some first = ap (get g.waiting) same ∙ e in
        subst (IsFirst (xs ++ Wakes wake ∷ []) (length xs + 1) task) (sym o) (keeps_some xs (Wakes wake) tt (subst (IsFirst xs (length xs) task) o (s.waits task)))
    | inr (f, other) ↦ keeps xs (Wakes wake) (get g.waiting task) tt (λ w is same. other (sym same ∙ ap (λ (v : Wake). v.task) (wake_same w wake (sym is)))) (s.waits task)
  ]);
  pairs = pairs_same xs (Wakes wake) g.pairs (no_pair xs (Wakes wake) (no_switch (Wakes wake) tt)) s.pairs;
}

and_switch : (xs : List WakeupItem) (g : Gathered) (switch : Switch) → IsState xs g → (o : Option ℕ) → get g.waiting switch.task ≡ o → IsState (xs ++ Switches switch ∷ []) (and_switched o g switch)
unfolding not_a_wake
and_switch xs g switch s None e = record {
  waits = λ task. longer xs (Switches switch) task (get g.waiting task) (elim (tasks task switch.task) [
    | inl (t, same) ↦
        let o : get g.waiting task ≡ None = ap (get g.waiting) same ∙ e in
        subst (IsFirst (xs ++ Switches switch ∷ []) (length xs + 1) task) (sym o) (ends xs (Switches switch) task (λ q. q (sym same)) (no_wake (Switches switch) tt))
    | inr (f, other) ↦ keeps xs (Switches switch) (get g.waiting task) (λ same. other (sym same)) (λ w is. absurd (no_wake (Switches switch) tt w is)) (s.waits task)
  ]);
  pairs = pairs_same xs (Switches switch) g.pairs (λ i p.
      let l = paired_last xs (Switches switch) p in
      let same : l.0 ≡ switch = same_switch (Some (Switches switch)) l.0 switch (ap (λ (z : WakeupItem). Some z) l.1) refl in
      subst (IsFirst xs (length xs) switch.task) e (s.waits switch.task) i (subst (λ (z : Switch). WaitsFrom xs z.task i (length xs)) same l.2)) s.pairs;
}
and_switch xs g switch s (Some woken) e = record {
  waits = λ task. longer xs (Switches switch) task (get (remove g.waiting switch.task) task)
      (subst (IsFirst (xs ++ Switches switch ∷ []) (length xs + 1) task) (sym (get-remove int_cmp_total g.waiting switch.task task))
      (elim (tasks task switch.task) [
        | inl (t, same) ↦ subst (λ b. IsFirst (xs ++ Switches switch ∷ []) (length xs + 1) task (cond b None (get g.waiting task))) (sym t)
            (ends xs (Switches switch) task (λ q. q (sym same)) (no_wake (Switches switch) tt))
        | inr (f, other) ↦ subst (λ b. IsFirst (xs ++ Switches switch ∷ []) (length xs + 1) task (cond b None (get g.waiting task))) (sym f)
            (keeps xs (Switches switch) (get g.waiting task) (λ same. other (sym same)) (λ w is. absurd (no_wake (Switches switch) tt w is)) (s.waits task))
      ]));
  pairs = pairs_more xs (Switches switch) g.pairs switch woken refl (subst (IsFirst xs (length xs) switch.task) e (s.waits switch.task)) s.pairs;
}

and_one : (xs : List WakeupItem) (g : Gathered) (x : WakeupItem) → IsState xs g → IsState (xs ++ x ∷ []) (and_seen g x)
unfolding not_a_switch not_a_wake
and_one xs g (Wakes wake) s = and_wake xs g wake s (get g.waiting wake.task) refl
and_one xs g (Switches switch) s = and_switch xs g switch s (get g.waiting switch.task) refl
and_one xs g Lost s = record {
  waits = λ task. longer xs Lost task (get (empty {X = ℕ} {R = int_cmp}) task) (subst (IsFirst (xs ++ Lost ∷ []) (length xs + 1) task) (sym (get-empty int_cmp task)) (ends xs Lost task (λ q. q) (no_wake Lost tt)));
  pairs = pairs_same xs Lost g.pairs (no_pair xs Lost (no_switch Lost tt)) s.pairs;
}
and_one xs g Other s = record {
  waits = λ task. longer xs Other task (get g.waiting task) (keeps xs Other (get g.waiting task) tt (λ w is. absurd (no_wake Other tt w is)) (s.waits task));
  pairs = pairs_same xs Other g.pairs (no_pair xs Other (no_switch Other tt)) s.pairs;
}

and_all : (xs ys : List WakeupItem) (g : Gathered) → IsState xs g → IsState (xs ++ ys) (fold and_seen g ys)
and_all xs [] g s = subst (λ zs. IsState zs g) (sym (append-nil xs)) s
and_all xs (y ∷ ys) g s = subst (λ zs. IsState zs (fold and_seen (and_seen g y) ys)) (append_assoc xs (y ∷ []) ys) (and_all (xs ++ y ∷ []) ys (and_seen g y) (and_one xs g y s))

begun : IsState [] none_gathered
begun = record {
  waits = λ task. subst (IsFirst [] 0 task) (sym (get-empty int_cmp task)) (λ i w. none-some (Wakes w.wake) w.there);
  pairs = record { places = []; rise = tt; each = tt; all = λ i j p. absurd (none-some (Switches p.switch) p.there) };
}

pub pass_pairs : (xs : List WakeupItem) → ArePairs xs (gathered xs).pairs
pass_pairs xs = (and_all [] xs none_gathered begun).pairs
