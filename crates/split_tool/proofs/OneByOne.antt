-- A list of one element.
use Rattle.std.proofs.Common.{◌≡◌, List, [], ◌∷◌, length, refl, arith}

pub record One {X : Type 0} (xs : List X) : Type 0 where
  pub item : X
  pub is : xs ≡ item ∷ []

pub one_of : {X : Type 0} (xs : List X) → length xs ≡ 1 → One xs
one_of [] e = absurd (omega (arith, e))
one_of (x ∷ []) e = record { item = x; is = refl }
one_of (x ∷ y ∷ xs) e = absurd (omega (arith, e))
