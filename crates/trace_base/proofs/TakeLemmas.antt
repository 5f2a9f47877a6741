-- One more of the first elements of a list.
use Rattle.std.proofs.Common.{◌≡◌, ℕ, zero, suc, ◌+◌, List, [], ◌∷◌, ◌++◌, take, slice_get, refl, sym, ap, ◌∙◌, arith}
use Rattle.std.specs.List.{cons_option}
use Rattle.std.proofs.lemmas.List.{take_all}

pub take_next : {X : Type 0} (xs : List X) (i : ℕ) → take (i + 1) xs ≡ take i xs ++ cons_option (slice_get xs i) []
take_next [] i = take_all (i + 1) [] (omega arith) ∙ sym (ap (λ (l : List _). l ++ []) (take_all i [] (omega arith)))
take_next (x ∷ xs) zero = refl
take_next (x ∷ xs) (suc i) = let more : suc i + 1 ≡ suc (i + 1) = omega arith in ap (λ (n : ℕ). take n (x ∷ xs)) more ∙ ap (λ (l : List _). x ∷ l) (take_next xs i)
