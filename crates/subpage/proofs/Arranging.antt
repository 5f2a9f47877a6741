-- A list that rises by a key and keeps the elements of each key in their order is the one that `by_key` computes.
use Rattle.std.proofs.Common.{◌≡◌, ℕ, suc, ◌<◌, ◌≤◌, Bool, true, false, cond, ◌&&◌, not, ltb, leb, eqb, List, [], ◌∷◌, map, refl, sym, ap, ◌∙◌, arith, inl, inr}
use Rattle.std.specs.List.{filter}
use Rattle.std.specs.List.Sorted.{IsNonDecreasingBy, IsStableByKey, ties}
use Rattle.std.specs.Ordering.{nat_cmp, is_lt}
use Rattle.std.proofs.lemmas.Bool.{leb-true, leb-false, lt-ltb, le-ltb, eqb-true, eqb-false, eq-eqb, ne_eqb, cases_Bool, cases_order}
use Rattle.subpage.specs.Arrangement.{IsRising, with_key, put, by_key}

module _ {X : Type 0} (key : X → ℕ) where
  pub rising_tail : (x : X) (xs : List X) → IsRising key (x ∷ xs) → IsRising key xs
  rising_tail x [] r = tt
  rising_tail x (y ∷ ys) r = r.1

  pub with_key-same : (x : X) (xs : List X) (k : ℕ) → key x ≡ k → with_key key k (x ∷ xs) ≡ x ∷ with_key key k xs
  with_key-same x xs k h = let e : eqb (key x) k ≡ true = eq-eqb (key x) k h in rw e refl

  pub with_key-other : (x : X) (xs : List X) (k : ℕ) → (key x ≡ k → ⊥) → with_key key k (x ∷ xs) ≡ with_key key k xs
  with_key-other x xs k h = let e : eqb (key x) k ≡ false = ne_eqb (key x) k h in rw e refl

  -- nothing of a smaller key is there
  none_below : (k : ℕ) (x : X) (xs : List X) → IsRising key (x ∷ xs) → k < key x → with_key key k (x ∷ xs) ≡ []
  none_below k x [] r lt = with_key-other x [] k (λ h. omega arith)
  none_below k x (y ∷ ys) r lt = with_key-other x (y ∷ ys) k (λ h. omega arith) ∙ none_below k y ys r.1 (omega (arith, r.0))

  not_empty : (x : X) (xs : List X) → x ∷ xs ≡ [] → ⊥
  not_empty x xs e = cc

  heads : (x y : X) (xs ys : List X) → x ∷ xs ≡ y ∷ ys → x ≡ y
  heads x y xs ys e = cc

  tails : (x y : X) (xs ys : List X) → x ∷ xs ≡ y ∷ ys → xs ≡ ys
  tails x y xs ys e = cc

  -- Two rising lists with the same elements of each key, in the same order, are one.
  pub one_rising : (xs ys : List X) → IsRising key xs → IsRising key ys → ((z : X) → with_key key (key z) xs ≡ with_key key (key z) ys) → xs ≡ ys
  one_rising [] [] r s same = refl
  one_rising [] (y ∷ ys) r s same = absurd (not_empty y _ (sym (with_key-same y ys (key y) refl) ∙ sym (same y)))
  one_rising (x ∷ xs) [] r s same = absurd (not_empty x _ (sym (with_key-same x xs (key x) refl) ∙ same x))
  one_rising (x ∷ xs) (y ∷ ys) r s same =
      elim (cases_order (key x) (key y)) [
        | inl e ↦
            let h : x ∷ with_key key (key x) xs ≡ y ∷ with_key key (key x) ys = sym (with_key-same x xs (key x) refl) ∙ same x ∙ with_key-same y ys (key x) (sym e) in
            let first : x ≡ y = heads x y _ _ h in
            let rest : (z : X) → with_key key (key z) xs ≡ with_key key (key z) ys = λ z. elim (cases_Bool (eqb (key x) (key z))) [
              | inl b ↦ let same_key : key x ≡ key z = eqb-true _ _ b in tails x y _ _ (sym (with_key-same x xs (key z) same_key) ∙ same z ∙ with_key-same y ys (key z) (sym e ∙ same_key))
              | inr b ↦ sym (with_key-other x xs (key z) (eqb-false _ _ b)) ∙ same z ∙ with_key-other y ys (key z) (λ q. eqb-false _ _ b (e ∙ q))
            ] in
            ap (λ z. z ∷ xs) first ∙ ap (λ (zs : List X). y ∷ zs) (one_rising xs ys (rising_tail x xs r) (rising_tail y ys s) rest)
        | inr d ↦ elim d [
          | inl lt ↦ absurd (not_empty x _ (sym (with_key-same x xs (key x) refl) ∙ same x ∙ none_below (key x) y ys s lt))
          | inr gt ↦ absurd (not_empty y _ (sym (with_key-same y ys (key y) refl) ∙ sym (same y) ∙ none_below (key y) x xs r gt))
        ]
      ]

  -- what `put` does to keys and to the elements of a key
  put_behind : (y x : X) (ys : List X) → key y ≤ key x → IsRising key (y ∷ ys) → IsRising key (put key x ys) → IsRising key (y ∷ put key x ys)
  put_behind y x [] le r s = (le, tt)
  put_behind y x (z ∷ zs) le r s = elim (cases_Bool (leb (key x) (key z))) [
    | inl b ↦ rw b (le, (leb-true _ _ b, r.1))
    | inr b ↦ rw b (r.0, (rw b at s))
  ]

  put_rising : (x : X) (xs : List X) → IsRising key xs → IsRising key (put key x xs)
  put_rising x [] r = tt
  put_rising x (y ∷ ys) r = elim (cases_Bool (leb (key x) (key y))) [
    | inl b ↦ rw b (leb-true _ _ b, r)
    | inr b ↦ rw b (put_behind y x ys (let lt = leb-false (key x) (key y) b in omega arith) r (put_rising x ys (rising_tail y ys r)))
  ]

  -- the elements of a key after the same front
  with_key-behind : (k : ℕ) (x : X) (xs ys : List X) → with_key key k xs ≡ with_key key k ys → with_key key k (x ∷ xs) ≡ with_key key k (x ∷ ys)
  with_key-behind k x xs ys e = elim (cases_Bool (eqb (key x) k)) [
    | inl b ↦ rw b (ap (λ (zs : List X). x ∷ zs) e)
    | inr b ↦ rw b e
  ]

  -- two elements of two keys may change places
  with_key-swap : (k : ℕ) (x y : X) (ys : List X) → (key x ≡ key y → ⊥) → with_key key k (y ∷ x ∷ ys) ≡ with_key key k (x ∷ y ∷ ys)
  with_key-swap k x y ys differ = elim (cases_Bool (eqb (key x) k)) [
    | inl b ↦
        let here : key x ≡ k = eqb-true _ _ b in
        let other : key y ≡ k → ⊥ = λ h. differ (here ∙ sym h) in
        with_key-other y (x ∷ ys) k other ∙ with_key-same x ys k here ∙ ap (λ (zs : List X). x ∷ zs) (sym (with_key-other y ys k other)) ∙ sym (with_key-same x (y ∷ ys) k here)
    | inr b ↦
        let other : key x ≡ k → ⊥ = eqb-false _ _ b in
        with_key-behind k y (x ∷ ys) ys (with_key-other x ys k other) ∙ sym (with_key-other x (y ∷ ys) k other)
  ]

  put_with_key : (k : ℕ) (x : X) (xs : List X) → with_key key k (put key x xs) ≡ with_key key k (x ∷ xs)
  put_with_key k x [] = refl
  put_with_key k x (y ∷ ys) = elim (cases_Bool (leb (key x) (key y))) [
    | inl b ↦ rw b refl
    | inr b ↦
        let lt = leb-false (key x) (key y) b in
        let one : put key x (y ∷ ys) ≡ y ∷ put key x ys = rw b refl in
        ap (with_key key k) one ∙ with_key-behind k y (put key x ys) (x ∷ ys) (put_with_key k x ys) ∙ with_key-swap k x y ys (λ e. omega arith)
  ]

  pub by_key-rising : (xs : List X) → IsRising key (by_key key xs)
  by_key-rising [] = tt
  by_key-rising (x ∷ xs) = put_rising x (by_key key xs) (by_key-rising xs)

  pub by_key-with_key : (k : ℕ) (xs : List X) → with_key key k (by_key key xs) ≡ with_key key k xs
  by_key-with_key k [] = refl
  by_key-with_key k (x ∷ xs) = put_with_key k x (by_key key xs) ∙ with_key-behind k x (by_key key xs) xs (by_key-with_key k xs)

  rises : (xs : List X) → IsNonDecreasingBy key xs → IsRising key xs
  rises [] h = tt
  rises (x ∷ []) h = tt
  rises (x ∷ y ∷ ys) h = (h 0 1 x (omega arith) (omega arith), rises (y ∷ ys) (λ i j d le lt. h (suc i) (suc j) d (omega arith) (omega arith)))

  tie_is : (a b : ℕ) → (not (is_lt (nat_cmp a b)) && not (is_lt (nat_cmp b a))) ≡ eqb b a
  tie_is a b = elim (cases_order a b) [
    | inl e ↦
        let p : ltb a b ≡ false = le-ltb a b (omega arith) in
        let q : ltb b a ≡ false = le-ltb b a (omega arith) in
        let r : eqb b a ≡ true = eq-eqb b a (sym e) in
        let s : eqb a b ≡ true = eq-eqb a b e in
        rw (p, q, r, s) refl
    | inr d ↦ elim d [
      | inl lt ↦
          let p : ltb a b ≡ true = lt-ltb a b lt in
          let r : eqb b a ≡ false = ne_eqb b a (λ e. omega arith) in
          rw (p, r) refl
      | inr gt ↦
          let p : ltb a b ≡ false = le-ltb a b (omega arith) in
          let q : ltb b a ≡ true = lt-ltb b a gt in
          let r : eqb b a ≡ false = ne_eqb b a (λ e. omega arith) in
          let s : eqb a b ≡ false = ne_eqb a b (λ e. omega arith) in
          rw (p, q, r, s) refl
    ]
  ]

  same_filter : (p q : X → Bool) → ((x : X) → p x ≡ q x) → (xs : List X) → filter p xs ≡ filter q xs
  same_filter p q e [] = refl
  same_filter p q e (x ∷ xs) = rw (e x) (ap (λ (ys : List X). cond (q x) (x ∷ ys) ys) (same_filter p q e xs))

  ties-with_key : (z : X) (xs : List X) → filter (ties (λ x y. is_lt (nat_cmp (key x) (key y))) z) xs ≡ with_key key (key z) xs
  ties-with_key z xs = same_filter (ties (λ x y. is_lt (nat_cmp (key x) (key y))) z) (λ x. eqb (key x) (key z)) (λ x. tie_is (key z) (key x)) xs

  -- what a stable sort by a number gives
  pub sort_gives : (xs ys : List X) → IsNonDecreasingBy key ys → IsStableByKey key nat_cmp xs ys → ys ≡ by_key key xs
  sort_gives xs ys up stable =
      one_rising ys (by_key key xs) (rises ys up) (by_key-rising xs) (λ z. sym (ties-with_key z ys) ∙ stable z ∙ ties-with_key z xs ∙ sym (by_key-with_key (key z) xs))

-- what is seen of an arrangement is the arrangement of what is seen
module _ {X Y : Type 0} (key : X → ℕ) (other : Y → ℕ) (view : X → Y) (same : (x : X) → key x ≡ other (view x)) where
  map_put : (x : X) (xs : List X) → map view (put key x xs) ≡ put other (view x) (map view xs)
  map_put x [] = refl
  map_put x (y ∷ ys) = rw (same x, same y) (elim (cases_Bool (leb (other (view x)) (other (view y)))) [
    | inl b ↦ rw b refl
    | inr b ↦ rw b (ap (λ (zs : List Y). view y ∷ zs) (map_put x ys))
  ])

  pub map_by_key : (xs : List X) → map view (by_key key xs) ≡ by_key other (map view xs)
  map_by_key [] = refl
  map_by_key (x ∷ xs) = map_put x (by_key key xs) ∙ ap (put other (view x)) (map_by_key xs)
