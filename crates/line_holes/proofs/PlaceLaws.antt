-- The last time before a place.
use Rattle.std.proofs.Common.{◌≡◌, ℕ, zero, suc, ◌<◌, List, [], ◌∷◌, length, take, Option, None, Some, refl, sym, ap, subst, ◌∙◌, ◌⊎◌, inl, inr, arith}
use Rattle.std.specs.Prelude.{slice_get}
use Rattle.line_holes.specs.Holes.{later, along, last_time}
use Rattle.line_holes.specs.Places.{NoneBetween, IsLast, IsLastBefore, AreAlong}
use Rattle.line_holes.proofs.AlongLaws.{along_at, along_length}

module _ {X : Type 0} (time : X → Option ℕ) where
  -- none before the place has a time and the first one stays, or this is the last
  abbrev Found : Option ℕ → List X → ℕ → Type 0
  Found start xs i = (NoneBetween time xs 0 i × (last_time time start (take i xs) ≡ start)) ⊎ ((t : ℕ) × ((last_time time start (take i xs) ≡ Some t) × IsLast time xs i t))

  none_first : (xs : List X) → NoneBetween time xs 0 zero
  none_first xs k x above below there = absurd (omega (arith, below))

  no_more : (i : ℕ) → NoneBetween time [] 0 i
  no_more i k x above below there = absurd (never there)
    where
      never : None ≡ Some x → ⊥
      never e = cc

  none_on : (y : X) (xs : List X) (i : ℕ) → time y ≡ None → NoneBetween time xs 0 i → NoneBetween time (y ∷ xs) 0 (suc i)
  none_on y xs i e none zero x above below there = ap time (same there) ∙ e
    where
      same : Some y ≡ Some x → x ≡ y
      same e = cc
  none_on y xs i e none (suc k) x above below there = none k x (omega arith) (omega (arith, below)) there

  none_behind : (y : X) (xs : List X) (from i : ℕ) → NoneBetween time xs from i → NoneBetween time (y ∷ xs) (suc from) (suc i)
  none_behind y xs from i none zero x above below there = absurd (omega (arith, above))
  none_behind y xs from i none (suc k) x above below there = none k x (omega (arith, above)) (omega (arith, below)) there

  last_on : (y : X) (xs : List X) (i t : ℕ) → IsLast time xs i t → IsLast time (y ∷ xs) (suc i) t
  last_on y xs i t l = record {
    place = suc l.place;
    one = l.one;
    before = omega (arith, l.before);
    there = l.there;
    has = l.has;
    none = none_behind y xs (suc l.place) i l.none;
  }

  last_here : (y : X) (xs : List X) (i t : ℕ) → time y ≡ Some t → NoneBetween time xs 0 i → IsLast time (y ∷ xs) (suc i) t
  last_here y xs i t e none = record {
    place = 0;
    one = y;
    before = omega arith;
    there = refl;
    has = e;
    none = none_behind y xs 0 i none;
  }

  found : (start : Option ℕ) (xs : List X) (i : ℕ) → Found start xs i
  found start xs zero = inl (none_first xs, refl)
  found start [] (suc i) = inl (no_more (suc i), refl)
  found start (y ∷ xs) (suc i) = by_time (time y) refl (found (later start (time y)) xs i)
    where
      by_time : (o : Option ℕ) → time y ≡ o → Found (later start (time y)) xs i → Found start (y ∷ xs) (suc i)
      by_time None e rest =
          let same : later start (time y) ≡ start = ap (later start) e in
          elim rest as (λ _. Found start (y ∷ xs) (suc i)) [
            | inl none ↦ inl (none_on y xs i e none.0, none.1 ∙ same)
            | inr last ↦ inr (last.0, (last.1.0, last_on y xs i last.0 last.1.1))
          ]
      by_time (Some t) e rest =
          let now : later start (time y) ≡ Some t = ap (later start) e in
          elim rest as (λ _. Found start (y ∷ xs) (suc i)) [
            | inl none ↦ inr (t, (none.1 ∙ now, last_here y xs i t e none.0))
            | inr last ↦ inr (last.0, (last.1.0, last_on y xs i last.0 last.1.1))
          ]

  -- the last time of the first few is that of the last one that has one
  pub last_is_before : (xs : List X) (i : ℕ) → IsLastBefore time xs i (last_time time None (take i xs))
  last_is_before xs i =
      let P : Option ℕ → Type 0 = IsLastBefore time xs i in
      elim (found None xs i) as (λ _. P (last_time time None (take i xs))) [
        | inl none ↦ subst P (sym none.1) none.0
        | inr last ↦ subst P (sym last.1.0) last.1.1
      ]

  not_none : (xs : List X) (i t : ℕ) → NoneBetween time xs 0 i → IsLast time xs i t → ⊥
  not_none xs i t none l = never (sym (none l.place l.one (omega arith) l.before l.there) ∙ l.has)
    where
      never : None ≡ Some t → ⊥
      never e = cc

  same_last : (xs : List X) (i t u : ℕ) → IsLast time xs i t → IsLast time xs i u → t ≡ u
  same_last xs i t u a b =
      let up : a.place < b.place → ⊥ = λ lt. never u (sym (a.none b.place b.one (omega (arith, lt)) b.before b.there) ∙ b.has) in
      let down : b.place < a.place → ⊥ = λ lt. never t (sym (b.none a.place a.one (omega (arith, lt)) a.before a.there) ∙ a.has) in
      let place : a.place ≡ b.place = same_place a.place b.place up down in
      let one : Some a.one ≡ Some b.one = sym a.there ∙ ap (slice_get xs) place ∙ b.there in
      times (sym a.has ∙ ap time (ones one) ∙ b.has)
    where
      never : (v : ℕ) → None ≡ Some v → ⊥
      never v e = cc

      ones : Some a.one ≡ Some b.one → a.one ≡ b.one
      ones e = cc

      times : Some t ≡ Some u → t ≡ u
      times e = cc

      same_place : (m n : ℕ) → (m < n → ⊥) → (n < m → ⊥) → m ≡ n
      same_place m n up down = omega (arith, up, down)

  -- there is only one such time
  pub one_before : (xs : List X) (i : ℕ) (a b : Option ℕ) → IsLastBefore time xs i a → IsLastBefore time xs i b → a ≡ b
  one_before xs i None None a b = refl
  one_before xs i None (Some u) a b = absurd (not_none xs i u a b)
  one_before xs i (Some t) None a b = absurd (not_none xs i t b a)
  one_before xs i (Some t) (Some u) a b = ap Some (same_last xs i t u a b)

module _ {X Y : Type 0} (time : X → Option ℕ) (f : Option ℕ → X → Y) where
  pub along_is : (xs : List X) → AreAlong time f xs (along time f None xs)
  along_is xs = record {
    long = along_length time f None xs;
    each = λ i x last there before.
        along_at time f None xs i x there ∙ ap (λ (o : Option ℕ). Some (f o x)) (one_before time xs i (last_time time None (take i xs)) last (last_is_before time xs i) before);
  }

  same_lists : (ys zs : List Y) → length ys ≡ length zs → ((i : ℕ) → i < length ys → slice_get ys i ≡ slice_get zs i) → ys ≡ zs
  same_lists [] [] long each = refl
  same_lists [] (z ∷ zs) long each = absurd (omega (arith, long))
  same_lists (y ∷ ys) [] long each = absurd (omega (arith, long))
  same_lists (y ∷ ys) (z ∷ zs) long each =
      ap (λ (v : Y). v ∷ ys) (same (each 0 (omega arith))) ∙ ap (λ (l : List Y). z ∷ l) (same_lists ys zs (omega (arith, long)) (λ i lt. each (suc i) (omega (arith, lt))))
    where
      same : Some y ≡ Some z → y ≡ z
      same e = cc

  one_there : (xs : List X) (i : ℕ) → i < length xs → (x : X) × (slice_get xs i ≡ Some x)
  one_there [] i lt = absurd (omega (arith, lt))
  one_there (x ∷ xs) zero lt = (x, refl)
  one_there (x ∷ xs) (suc i) lt = one_there xs i (omega (arith, lt))

  pub only_along : (xs : List X) (ys : List Y) → AreAlong time f xs ys → ys ≡ along time f None xs
  only_along xs ys a =
      let b : AreAlong time f xs (along time f None xs) = along_is xs in
      same_lists ys (along time f None xs) (a.long ∙ sym b.long) (λ i lt.
      let one : (x : X) × (slice_get xs i ≡ Some x) = one_there xs i (omega (arith, lt, a.long)) in
      let last : Option ℕ = last_time time None (take i xs) in
      a.each i one.0 last one.1 (last_is_before time xs i) ∙ sym (b.each i one.0 last one.1 (last_is_before time xs i)))
