-- Filters of lists.
use Rattle.std.proofs.Common.{◌≡◌, Bool, true, cond, List, [], ◌∷◌, filter, refl, ap}

pub filter-same : {X : Type 0} (p q : X → Bool) → ((x : X) → p x ≡ q x) → (xs : List X) → filter p xs ≡ filter q xs
filter-same p q e [] = refl
filter-same {X} p q e (x ∷ xs) = rw (e x) (ap (λ (ys : List X). cond (q x) (x ∷ ys) ys) (filter-same p q e xs))

pub filter-all : {X : Type 0} (xs : List X) → filter (λ x. true) xs ≡ xs
filter-all [] = refl
filter-all {X} (x ∷ xs) = ap (λ (ys : List X). x ∷ ys) (filter-all xs)
