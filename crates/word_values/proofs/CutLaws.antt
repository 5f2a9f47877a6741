-- `cut`, and the first place of a kind of byte.
use Rattle.std.proofs.Common.{◌≡◌, ℕ, suc, ◌+◌, ◌<◌, ◌≤◌, Bool, true, false, List, [], ◌∷◌, length, take, drop, nat_lt, not, cond, if◌then◌else◌, Some, None, option_map, refl, arith}
use Rattle.std.specs.List.{slice_split, position, position_or_len, before_first, after_first}
use Rattle.std.proofs.lemmas.Bool.Decides.{nat_tests}
use Rattle.std.specs.Option.{option_map_or}
use Rattle.std.proofs.lemmas.List.Splits.{slice_split_first, slice_split_none}
use Rattle.std.proofs.lemmas.List.Sums.{fails_before_first}
use Rattle.word_values.specs.Cut.{parts, cut}

longer : (n x : ℕ) (xs : List ℕ) → parts (take (1 + n) (x ∷ xs)) (drop (1 + n + 1) (x ∷ xs)) ≡ parts (x ∷ take n xs) (drop (n + 1) xs)
longer n x xs =
    let e : 1 + n ≡ suc n = omega arith in
    let f : suc n + 1 ≡ suc (n + 1) = omega arith in
    rw (e, f) refl

none_at : (p : ℕ → Bool) (x : ℕ) (xs : List ℕ) (b : Bool) → p x ≡ b → (position_or_len p xs ≡ length xs → cut p xs ≡ None) → position_or_len p (x ∷ xs) ≡ length (x ∷ xs) → cut p (x ∷ xs) ≡ None
none_at p x xs true e again h =
    let h' : 0 ≡ length (x ∷ xs) = rw e at h in absurd (omega arith)
none_at p x xs false e again h =
    let h' = rw e at h in rw (e, again (omega (arith, h')))

-- no byte is of the kind
pub cut-none : (p : ℕ → Bool) (xs : List ℕ) → position_or_len p xs ≡ length xs → cut p xs ≡ None
cut-none p [] h = refl
cut-none p (x ∷ xs) h = none_at p x xs (p x) refl (cut-none p xs) h

first_at : (p : ℕ → Bool) (x : ℕ) (xs : List ℕ) (b : Bool) → p x ≡ b → (position_or_len p xs < length xs → cut p xs ≡ Some (parts (before_first p xs) (after_first p xs))) → position_or_len p (x ∷ xs) < length (x ∷ xs) → cut p (x ∷ xs) ≡ Some (parts (before_first p (x ∷ xs)) (after_first p (x ∷ xs)))
first_at p x xs true e again h = rw e
first_at p x xs false e again h =
    let h' = rw e at h in rw (e, again (omega (arith, h')), longer (position_or_len p xs) x xs)

-- the parts stand around the first byte of the kind
pub cut-first : (p : ℕ → Bool) (xs : List ℕ) → position_or_len p xs < length xs → cut p xs ≡ Some (parts (before_first p xs) (after_first p xs))
cut-first p [] h = absurd (omega arith)
cut-first p (x ∷ xs) h = first_at p x xs (p x) refl (cut-first p xs) h

cut_by : (p : ℕ → Bool) (xs : List ℕ) (found : Bool) → nat_lt (position_or_len p xs) (length xs) ≡ found → position_or_len p xs ≤ length xs → cut p xs ≡ option_map (λ i. parts (take i xs) (drop (i + 1) xs)) (if found then Some (position_or_len p xs) else None)
cut_by p xs true e bound = cut-first p xs (grind (arith, nat_tests, e))
cut_by p xs false e bound = cut-none p xs (grind (arith, nat_tests, e, bound))

bound_at : (b : Bool) (n m : ℕ) → n ≤ m → cond b (1 + n) 0 ≤ suc m
bound_at true n m h = omega arith
bound_at false n m h = omega arith

place_bound : (p : ℕ → Bool) (xs : List ℕ) → position_or_len p xs ≤ length xs
place_bound p [] = omega arith
place_bound p (x ∷ xs) = bound_at (not (p x)) _ _ (place_bound p xs)

-- by the first place of the kind, where there is one
pub cut_by_position : (p : ℕ → Bool) (xs : List ℕ) → cut p xs ≡ option_map (λ i. parts (take i xs) (drop (i + 1) xs)) (position p xs)
cut_by_position p xs = cut_by p xs (nat_lt (position_or_len p xs) (length xs)) refl (place_bound p xs)

position_by : (p : ℕ → Bool) (xs : List ℕ) (i : ℕ) (found : Bool) → nat_lt (position_or_len p xs) (length xs) ≡ found → (if found then Some (position_or_len p xs) else None) ≡ Some i → i < length xs
position_by p xs i true e h =
    let h' : position_or_len p xs ≡ i = cc in grind (arith, nat_tests, e, h')
position_by p xs i false e h = cc

pub position_inside : (p : ℕ → Bool) (xs : List ℕ) (i : ℕ) → position p xs ≡ Some i → i < length xs
position_inside p xs i h = position_by p xs i (nat_lt (position_or_len p xs) (length xs)) refl h

split_by : (p : ℕ → Bool) (xs : List ℕ) (found : Bool) → nat_lt (position_or_len p xs) (length xs) ≡ found → slice_split p xs ≡ option_map_or (λ i. take i xs ∷ slice_split p (drop (i + 1) xs)) (if found then Some (position_or_len p xs) else None) (xs ∷ [])
split_by p xs true e = slice_split_first p xs 0 (grind (arith, nat_tests, e))
split_by p xs false e =
    slice_split_none p xs (λ k d high. fails_before_first p xs k d (grind (arith, nat_tests, e, high)))

-- the pieces of a text, by the first place of a separator
pub split_by_position : (p : ℕ → Bool) (xs : List ℕ) → slice_split p xs ≡ option_map_or (λ i. take i xs ∷ slice_split p (drop (i + 1) xs)) (position p xs) (xs ∷ [])
split_by_position p xs = split_by p xs (nat_lt (position_or_len p xs) (length xs)) refl
