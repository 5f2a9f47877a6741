-- Processors that are chosen one after another.
use Rattle.std.proofs.Common.{◌≡◌, Bool, true, false, cond, ℕ, ◌+◌, ◌<◌, List, [], ◌∷◌, ◌++◌, length, drop, get_or, drop-cons, append_assoc, refl, sym, ap, ◌∙◌, add-one}
use Rattle.std.specs.Prelude.{filter}
use Rattle.std.specs.List.{enumerate_from}

filter_both : {X : Type 0} (p : X → Bool) (x : X) (xs : List X) → filter p (x ∷ []) ++ filter p xs ≡ filter p (x ∷ xs)
filter_both p x xs = by_test (p x)
  where
    by_test : (b : Bool) → cond b (x ∷ []) [] ++ filter p xs ≡ cond b (x ∷ filter p xs) (filter p xs)
    by_test true = refl
    by_test false = refl

-- the next element with its place, where it passes the test
pub numbered_more : {X : Type 0} (p : ℕ × X → Bool) (done now whole : List (ℕ × X)) (n i : ℕ) (xs : List X) (d : X) → i < length xs
    → now ≡ done ++ filter p ((n, get_or xs i d) ∷ []) → done ++ filter p (enumerate_from n (drop i xs)) ≡ whole
    → now ++ filter p (enumerate_from (n + 1) (drop (i + 1) xs)) ≡ whole
numbered_more p done now whole n i xs d inside next so_far =
    ap (λ front. front ++ filter p (enumerate_from (n + 1) (drop (i + 1) xs))) next
    ∙ append_assoc done (filter p ((n, get_or xs i d) ∷ [])) (filter p (enumerate_from (n + 1) (drop (i + 1) xs)))
    ∙ ap (λ rest. done ++ rest) (filter_both p (n, get_or xs i d) (enumerate_from (n + 1) (drop (i + 1) xs)))
    ∙ ap (λ rest. done ++ filter p (enumerate_from n rest)) (sym parted)
    ∙ so_far
  where
    parted : drop i xs ≡ get_or xs i d ∷ drop (i + 1) xs
    parted = rw add-one (drop-cons xs i d inside)
