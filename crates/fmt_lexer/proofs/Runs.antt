-- The bytes at the front that pass a test.
use Rattle.std.proofs.Common.{◌≡◌, ℕ, suc, subst, ◌+◌, ◌<◌, ◌≤◌, Bool, true, false, cond, List, [], zero, ◌∷◌, ◌++◌, length, take, get_or, refl, ap, ◌∙◌, arith}
use Rattle.std.specs.List.{prefix_len, AllPass}
use Rattle.std.proofs.lemmas.List.Sums.{prefix_len-le-length}
use Rattle.std.proofs.lemmas.List.Elements.{All-nil, All-cons, All-head, All-tail}

pub run_within : (p : ℕ → Bool) (xs : List ℕ) → prefix_len p xs ≤ length xs
run_within p xs = prefix_len-le-length p xs

passes_at : (p : ℕ → Bool) (x : ℕ) (xs : List ℕ) (b : Bool) → p x ≡ b → AllPass p (take (prefix_len p xs) xs) → AllPass p (take (cond b (1 + prefix_len p xs) 0) (x ∷ xs))
passes_at p x xs true e rest =
    let more : suc (prefix_len p xs) ≡ 1 + prefix_len p xs = omega arith in
    subst (λ (n : ℕ). AllPass p (take n (x ∷ xs))) more (All-cons (λ y. p y ≡ true) x (take (prefix_len p xs) xs) e rest)
passes_at p x xs false e rest = All-nil (λ y. p y ≡ true)

pub run_passes : (p : ℕ → Bool) (xs : List ℕ) → AllPass p (take (prefix_len p xs) xs)
run_passes p [] = All-nil (λ y. p y ≡ true)
run_passes p (x ∷ xs) = passes_at p x xs (p x) refl (run_passes p xs)

-- all of xs pass and the first byte after them does not
pub run_exact : (p : ℕ → Bool) (xs ys : List ℕ) → AllPass p xs → (0 < length ys → p (get_or ys 0 0) ≡ false) → prefix_len p (xs ++ ys) ≡ length xs
run_exact p [] [] pass stop = refl
run_exact p [] (y ∷ ys) pass stop = rw (stop (omega arith)) refl
run_exact p (x ∷ xs) ys pass stop =
    rw (All-head (λ y. p y ≡ true) x xs pass) (ap (λ (n : ℕ). 1 + n) (run_exact p xs ys (All-tail (λ y. p y ≡ true) x xs pass) stop) ∙ omega arith)

-- what passes as a whole is within the run
pub within_run : (p : ℕ → Bool) (n : ℕ) (xs : List ℕ) → n ≤ length xs → AllPass p (take n xs) → n ≤ prefix_len p xs
within_run p zero xs le pass = omega arith
within_run p (suc n) [] le pass = omega arith
within_run p (suc n) (x ∷ xs) le pass =
    let rest : n ≤ prefix_len p xs = within_run p n xs (omega arith) (All-tail (λ y. p y ≡ true) x (take n xs) pass) in
    rw (All-head (λ y. p y ≡ true) x (take n xs) pass) (omega arith)

-- a run is not empty where its first byte passes
pub run_some : (p : ℕ → Bool) (xs : List ℕ) → 0 < length xs → p (get_or xs 0 0) ≡ true → 0 < prefix_len p xs
run_some p [] some h = omega arith
run_some p (x ∷ xs) some h = rw h (omega arith)
