-- Filters of rising lists.
use Rattle.std.proofs.Common.{◌≡◌, ℕ, Bool, true, false, List, [], ◌∷◌, ◌++◌, refl, sym, ap, ◌∙◌, arith, inl, inr}
use Rattle.std.specs.List.{filter}
use Rattle.std.proofs.lemmas.Bool.{cases_Bool}
use Rattle.subpage.specs.Arrangement.{IsRising}
use Rattle.subpage.proofs.Arranging.{rising_tail}

module _ {X : Type 0} where
  pub filter-yes : (p : X → Bool) (x : X) (xs : List X) → p x ≡ true → filter p (x ∷ xs) ≡ x ∷ filter p xs
  filter-yes p x xs h = rw h refl

  pub filter-not : (p : X → Bool) (x : X) (xs : List X) → p x ≡ false → filter p (x ∷ xs) ≡ filter p xs
  filter-not p x xs h = rw h refl

  pub filter-filter : (p q : X → Bool) (xs : List X) → filter p (filter q xs) ≡ filter q (filter p xs)
  filter-filter p q [] = refl
  filter-filter p q (x ∷ xs) = elim (cases_Bool (p x)) [
    | inl a ↦ elim (cases_Bool (q x)) [
      | inl b ↦ ap (filter p) (filter-yes q x xs b) ∙ filter-yes p x (filter q xs) a ∙ ap (λ (ys : List X). x ∷ ys) (filter-filter p q xs) ∙ sym (filter-yes q x (filter p xs) b) ∙ ap (filter q) (sym (filter-yes p x xs a))
      | inr b ↦ ap (filter p) (filter-not q x xs b) ∙ filter-filter p q xs ∙ sym (filter-not q x (filter p xs) b) ∙ ap (filter q) (sym (filter-yes p x xs a))
    ]
    | inr a ↦ elim (cases_Bool (q x)) [
      | inl b ↦ ap (filter p) (filter-yes q x xs b) ∙ filter-not p x (filter q xs) a ∙ filter-filter p q xs ∙ ap (filter q) (sym (filter-not p x xs a))
      | inr b ↦ ap (filter p) (filter-not q x xs b) ∙ filter-filter p q xs ∙ ap (filter q) (sym (filter-not p x xs a))
    ]
  ]

  pub filter-append : (p : X → Bool) (xs ys : List X) → filter p (xs ++ ys) ≡ filter p xs ++ filter p ys
  filter-append p [] ys = refl
  filter-append p (x ∷ xs) ys = elim (cases_Bool (p x)) [
    | inl a ↦ filter-yes p x (xs ++ ys) a ∙ ap (λ (zs : List X). x ∷ zs) (filter-append p xs ys) ∙ ap (λ (zs : List X). zs ++ filter p ys) (sym (filter-yes p x xs a))
    | inr a ↦ filter-not p x (xs ++ ys) a ∙ filter-append p xs ys ∙ ap (λ (zs : List X). zs ++ filter p ys) (sym (filter-not p x xs a))
  ]

module _ {X : Type 0} (key : X → ℕ) (p : X → Bool) where
  skipped : (x y : X) (ys : List X) → IsRising key (x ∷ y ∷ ys) → IsRising key (x ∷ ys)
  skipped x y [] r = tt
  skipped x y (z ∷ zs) r = (omega (arith, r.0, r.1.0), r.1.1)

  rising_behind : (x : X) (xs : List X) → IsRising key (x ∷ xs) → IsRising key (x ∷ filter p xs)
  rising_behind x [] r = tt
  rising_behind x (y ∷ ys) r = elim (cases_Bool (p y)) [
    | inl a ↦ rw a (r.0, rising_behind y ys r.1)
    | inr a ↦ rw a (rising_behind x ys (skipped x y ys r))
  ]

  pub filter-rising : (xs : List X) → IsRising key xs → IsRising key (filter p xs)
  filter-rising [] r = tt
  filter-rising (x ∷ xs) r = elim (cases_Bool (p x)) [
    | inl a ↦ rw a (rising_behind x xs r)
    | inr a ↦ rw a (filter-rising xs (rising_tail key x xs r))
  ]
