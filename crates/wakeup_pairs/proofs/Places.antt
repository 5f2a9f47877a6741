-- What one more place changes.
use Rattle.std.proofs.Common.{◌≡◌, ℕ, ℤ, zero, suc, ◌+◌, ◌<◌, ◌≤◌, ◌⊎◌, List, [], ◌∷◌, ◌++◌, length, slice_get, Option, Some, None, refl, sym, ap, ◌∙◌, subst, inl, inr, arith}
use Rattle.std.proofs.lemmas.List.{length-append}
use Rattle.std.proofs.lemmas.Bool.{cases_eq}
use Rattle.std.proofs.lemmas.Option.{slice_get_within, same_Some}
use Rattle.wakeup_pairs.specs.declared.wakeup_item.Pair.{Pair}
use Rattle.wakeup_pairs.specs.declared.wakeup_item.Switch.{Switch}
use Rattle.wakeup_pairs.specs.declared.wakeup_item.Wake.{Wake}
use Rattle.wakeup_pairs.specs.declared.wakeup_item.WakeupItem.{WakeupItem}
use Rattle.wakeup_pairs.specs.declared.wakeup_item.WakeupItem.TheVariants.{Wakes, Switches, Lost, Other}
use Rattle.wakeup_pairs.specs.Pairs.{IsQuiet, WaitsFrom, IsPaired, IsPairAt, pair_of}

pub get_front : {X : Type 0} (xs : List X) (x : X) (i : ℕ) → i < length xs → slice_get (xs ++ x ∷ []) i ≡ slice_get xs i
get_front [] x i lt = absurd (omega arith)
get_front (y ∷ ys) x zero lt = refl
get_front (y ∷ ys) x (suc i) lt = get_front ys x i (omega arith)

pub get_last : {X : Type 0} (xs : List X) (x : X) → slice_get (xs ++ x ∷ []) (length xs) ≡ Some x
get_last [] x = refl
get_last (y ∷ ys) x = get_last ys x

pub length_more : {X : Type 0} (xs : List X) (x : X) → length (xs ++ x ∷ []) ≡ length xs + 1
length_more xs x = length-append xs (x ∷ [])

wake_in : Wake → Option WakeupItem → Wake
wake_in d None = d
wake_in d (Some (Wakes wake)) = wake
wake_in d (Some (Switches switch)) = d
wake_in d (Some Lost) = d
wake_in d (Some Other) = d

switch_in : Switch → Option WakeupItem → Switch
switch_in d None = d
switch_in d (Some (Wakes wake)) = d
switch_in d (Some (Switches switch)) = switch
switch_in d (Some Lost) = d
switch_in d (Some Other) = d

pub same_wake : (o : Option WakeupItem) (a b : Wake) → o ≡ Some (Wakes a) → o ≡ Some (Wakes b) → a ≡ b
unfolding wake_in
same_wake o a b p q = ap (wake_in a) (sym p ∙ q)

pub same_switch : (o : Option WakeupItem) (a b : Switch) → o ≡ Some (Switches a) → o ≡ Some (Switches b) → a ≡ b
unfolding switch_in
same_switch o a b p q = ap (switch_in a) (sym p ∙ q)

module _ (xs : List WakeupItem) (x : WakeupItem) where
  pub at_last : (z : WakeupItem) → slice_get (xs ++ x ∷ []) (length xs) ≡ Some z → x ≡ z
  at_last z e = same_Some x z (sym (get_last xs x) ∙ e)

  pub at_front : (k : ℕ) (z : WakeupItem) → k < length xs → slice_get (xs ++ x ∷ []) k ≡ Some z → slice_get xs k ≡ Some z
  at_front k z lt e = sym (get_front xs x k lt) ∙ e

  unfoldable pub waits_up : {task : ℤ} {i j : ℕ} → j ≤ length xs → WaitsFrom xs task i j → WaitsFrom (xs ++ x ∷ []) task i j
  waits_up {task} {i} {j} le w = record {
    wake = w.wake;
    there = get_front xs x i (omega (arith, w.before)) ∙ w.there;
    same = w.same;
    before = w.before;
    quiet = λ k z a b e. w.quiet k z a b (at_front k z (omega arith) e);
  }

  pub waits_down : {task : ℤ} {i j : ℕ} → j ≤ length xs → WaitsFrom (xs ++ x ∷ []) task i j → WaitsFrom xs task i j
  waits_down {task} {i} {j} le w = record {
    wake = w.wake;
    there = at_front i (Wakes w.wake) (omega (arith, w.before)) w.there;
    same = w.same;
    before = w.before;
    quiet = λ k z a b e. w.quiet k z a b (get_front xs x k (omega arith) ∙ e);
  }

  unfoldable pub waits_more : {task : ℤ} {i : ℕ} → WaitsFrom xs task i (length xs) → IsQuiet task x → WaitsFrom (xs ++ x ∷ []) task i (length xs + 1)
  waits_more {task} {i} w q = record {
    wake = w.wake;
    there = get_front xs x i w.before ∙ w.there;
    same = w.same;
    before = omega (arith, w.before);
    quiet = λ k z a b e. elim (cases_eq k (length xs)) [
      | inl same ↦ subst (IsQuiet task) (at_last z (subst (λ n. slice_get (xs ++ x ∷ []) n ≡ Some z) same e)) q
      | inr other ↦ w.quiet k z a (omega (arith, other)) (at_front k z (omega (arith, other)) e)
    ];
  }

  unfoldable pub waits_new : (wake : Wake) (task : ℤ) → x ≡ Wakes wake → wake.task ≡ task → WaitsFrom (xs ++ x ∷ []) task (length xs) (length xs + 1)
  waits_new wake task is same = record {
    wake = wake;
    there = get_last xs x ∙ ap (λ (z : WakeupItem). Some z) is;
    same = same;
    before = omega arith;
    quiet = λ k z a b e. absurd (omega arith);
  }

  pub waits_back : {task : ℤ} {i : ℕ} → WaitsFrom (xs ++ x ∷ []) task i (length xs + 1)
      → (WaitsFrom xs task i (length xs) × IsQuiet task x) ⊎ ((i ≡ length xs) × ((wake : Wake) × (x ≡ Wakes wake) × (wake.task ≡ task)))
  waits_back {task} {i} w = elim (cases_eq i (length xs)) [
    | inl same ↦ inr (same, (w.wake, at_last (Wakes w.wake) (subst (λ n. slice_get (xs ++ x ∷ []) n ≡ Some (Wakes w.wake)) same w.there), w.same))
    | inr other ↦
        let lt : i < length xs = omega (arith, other, w.before) in
        inl (
          record {
            wake = w.wake;
            there = at_front i (Wakes w.wake) lt w.there;
            same = w.same;
            before = lt;
            quiet = λ k z a b e. w.quiet k z a (omega arith) (get_front xs x k b ∙ e);
          },
          w.quiet (length xs) x lt (omega arith) (get_last xs x),
        )
  ]

  unfoldable pub paired_up : {i j : ℕ} → IsPaired xs i j → IsPaired (xs ++ x ∷ []) i j
  paired_up {i} {j} p =
      let lt : j < length xs = slice_get_within xs j (Switches p.switch) p.there in
      record {
        switch = p.switch;
        there = get_front xs x j lt ∙ p.there;
        waits = waits_up (omega arith) p.waits;
        first = λ h w. p.first h (waits_down (omega arith) w);
      }

  pub paired_down : {i j : ℕ} → j < length xs → IsPaired (xs ++ x ∷ []) i j → IsPaired xs i j
  paired_down {i} {j} lt p = record {
    switch = p.switch;
    there = at_front j (Switches p.switch) lt p.there;
    waits = waits_down (omega arith) p.waits;
    first = λ h w. p.first h (waits_up (omega arith) w);
  }

  pub paired_within : {i j : ℕ} → IsPaired (xs ++ x ∷ []) i j → j < length xs + 1
  paired_within {i} {j} p = subst (λ n. j < n) (length_more xs x) (slice_get_within (xs ++ x ∷ []) j (Switches p.switch) p.there)

  -- a switch at the new place
  pub paired_last : {i : ℕ} → IsPaired (xs ++ x ∷ []) i (length xs)
      → (switch : Switch) × (x ≡ Switches switch) × WaitsFrom xs switch.task i (length xs) × ((h : ℕ) → WaitsFrom xs switch.task h (length xs) → i ≤ h)
  paired_last {i} p = (p.switch, at_last (Switches p.switch) p.there, waits_down (omega arith) p.waits, λ h w. p.first h (waits_up (omega arith) w))

  pub pair_up : (places : ℕ × ℕ) (pair : Pair) → IsPairAt xs places pair → IsPairAt (xs ++ x ∷ []) places pair
  unfolding paired_up waits_up
  pair_up places pair p = record { paired = paired_up p.paired; told = p.told }

  pub pair_last : (switch : Switch) → x ≡ Switches switch → (i : ℕ) → (w : WaitsFrom xs switch.task i (length xs)) → ((h : ℕ) → WaitsFrom xs switch.task h (length xs) → i ≤ h)
      → IsPairAt (xs ++ x ∷ []) (i, length xs) (pair_of w.wake.time switch)
  unfolding waits_up
  pair_last switch is i w first = record {
    paired = record {
      switch = switch;
      there = get_last xs x ∙ ap (λ (z : WakeupItem). Some z) is;
      waits = waits_up (omega arith) w;
      first = λ h v. first h (waits_down (omega arith) v);
    };
    told = refl;
  }
