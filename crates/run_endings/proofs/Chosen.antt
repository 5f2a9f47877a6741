-- Chosen processors: their numbers rise, and they are no more than there are.
use Rattle.std.proofs.Common.{◌≡◌, ℕ, ◌+◌, ◌≤◌, suc, Bool, true, false, cond, List, [], ◌∷◌, ◌++◌, length, length-append, ap, arith}
use Rattle.std.specs.Prelude.{filter}
use Rattle.std.specs.List.{enumerate_from}
use Rattle.subpage.specs.Arrangement.{CpusRise}

-- the first number of a list is at least this one
abbrev BeginsAt : {X : Type 0} → ℕ → List (ℕ × X) → Type 0
BeginsAt n [] = Unit {0}
BeginsAt n (x ∷ xs) = n ≤ x.0

later : {X : Type 0} (n : ℕ) (xs : List (ℕ × X)) → BeginsAt (n + 1) xs → BeginsAt n xs
later n [] begins = tt
later n (x ∷ xs) begins = omega (arith, begins)

in_front : {X : Type 0} (n : ℕ) (x : X) (xs : List (ℕ × X)) → BeginsAt (n + 1) xs → CpusRise xs → CpusRise ((n, x) ∷ xs)
in_front n x [] begins rises = tt
in_front n x (y ∷ ys) begins rises = (omega (arith, begins), rises)

pub chosen_rise : {X : Type 0} (p : ℕ × X → Bool) (n : ℕ) (xs : List X) → BeginsAt n (filter p (enumerate_from n xs)) × CpusRise (filter p (enumerate_from n xs))
chosen_rise p n [] = (tt, tt)
chosen_rise p n (x ∷ xs) = by_test (p (n, x)) (chosen_rise p (n + 1) xs)
  where
    by_test : (b : Bool) → BeginsAt (n + 1) (filter p (enumerate_from (n + 1) xs)) × CpusRise (filter p (enumerate_from (n + 1) xs))
        → BeginsAt n (cond b ((n, x) ∷ filter p (enumerate_from (n + 1) xs)) (filter p (enumerate_from (n + 1) xs)))
        × CpusRise (cond b ((n, x) ∷ filter p (enumerate_from (n + 1) xs)) (filter p (enumerate_from (n + 1) xs)))
    by_test true rest = (omega arith, in_front n x (filter p (enumerate_from (n + 1) xs)) rest.0 rest.1)
    by_test false rest = (later n (filter p (enumerate_from (n + 1) xs)) rest.0, rest.1)

pub chosen_few : {X : Type 0} (p : ℕ × X → Bool) (n : ℕ) (xs : List X) → length (filter p (enumerate_from n xs)) ≤ length xs
chosen_few p n [] = omega arith
chosen_few p n (x ∷ xs) = by_test (p (n, x)) (chosen_few p (n + 1) xs)
  where
    by_test : (b : Bool) → length (filter p (enumerate_from (n + 1) xs)) ≤ length xs
        → length (cond b ((n, x) ∷ filter p (enumerate_from (n + 1) xs)) (filter p (enumerate_from (n + 1) xs))) ≤ suc (length xs)
    by_test true few = omega (arith, few)
    by_test false few = omega (arith, few)

-- nor are the first of them
pub first_few : {X : Type 0} (p : ℕ × X → Bool) (done rest : List (ℕ × X)) (n most : ℕ) (xs : List X) → done ++ rest ≡ filter p (enumerate_from n xs) → length xs ≤ most → length done ≤ most
first_few p done rest n most xs parted few = omega (arith, length-append done rest, ap length parted, chosen_few p n xs, few)
