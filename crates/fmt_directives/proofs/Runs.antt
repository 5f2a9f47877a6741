-- Runs at the front.
use Rattle.std.proofs.Common.{◌≡◌, ℕ, suc, ◌+◌, ◌-◌, ◌*◌, ◌<◌, ◌≤◌, min, Bool, true, List, [], ◌∷◌, ◌++◌, length, take, drop, get_or, refl, ap, subst, ◌∙◌, arith, inl, inr}
use Rattle.std.specs.List.{prefix_len, AllPass}
use Rattle.std.specs.Str.Parse.{digits_value}
use Rattle.std.specs.Char.{digit_value}
use Rattle.std.proofs.lemmas.Bool.{cases_Bool}
use Rattle.std.proofs.lemmas.Bool.Decides.{nat_tests}
use Rattle.std.proofs.lemmas.Int.Digits.{digits_value_more}
use Rattle.std.proofs.lemmas.List.{get_or-take, length-take}
use Rattle.std.proofs.lemmas.List.Elements.{All-head, All-tail}
use Rattle.std.proofs.lemmas.List.Sums.{prefix_len-le-length, prefix_len_passes}
use Rattle.fmt_directives.specs.Bytes.{is_decimal, is_flag, is_alphanumeric, is_plain, BeginsOutside}

pub digits_within : (bytes : List ℕ) → prefix_len is_decimal bytes ≤ length bytes
digits_within bytes = prefix_len-le-length is_decimal bytes

pub flags_within : (bytes : List ℕ) → prefix_len is_flag bytes ≤ length bytes
flags_within bytes = prefix_len-le-length is_flag bytes

pub run_within : (bytes : List ℕ) → prefix_len is_alphanumeric bytes ≤ length bytes
run_within bytes = prefix_len-le-length is_alphanumeric bytes

pub plain_within : (bytes : List ℕ) → prefix_len is_plain bytes ≤ length bytes
plain_within bytes = prefix_len-le-length is_plain bytes

pub run_passes : (p : ℕ → Bool) (bytes : List ℕ) → AllPass p (take (prefix_len p bytes) bytes)
run_passes p bytes k d lt =
    let less : k < prefix_len p bytes = omega (arith, length-take (prefix_len p bytes) bytes) in
    ap p (get_or-take (prefix_len p bytes) bytes k d less) ∙ prefix_len_passes p bytes k d less

pub digits_pass : (bytes : List ℕ) → AllPass is_decimal (take (prefix_len is_decimal bytes) bytes)
digits_pass bytes = run_passes is_decimal bytes

decimal_value : (b : ℕ) → is_decimal b ≡ true → digit_value b ≡ b - 48
decimal_value b is = grind (arith, nat_tests, is)

pub bounded_more : (digits : List ℕ) (i number : ℕ) → AllPass is_decimal digits → i < length digits → number ≡ min (digits_value 10 (take i digits)) 65536 → min (number * 10 + (get_or digits i 0 - 48)) 65536 ≡ min (digits_value 10 (take (i + 1) digits)) 65536
bounded_more digits i number pass lt is = omega (arith, digits_value_more 10 digits i lt, is, decimal_value (get_or digits i 0) (pass i 0 lt))

-- all of xs pass and the first byte after them does not
pub run_exact : (p : ℕ → Bool) (xs ys : List ℕ) → AllPass p xs → BeginsOutside p ys → prefix_len p (xs ++ ys) ≡ length xs
run_exact p [] [] pass stop = refl
run_exact p [] (y ∷ ys) pass stop = rw (stop (omega arith)) refl
run_exact p (x ∷ xs) ys pass stop =
    rw (All-head (λ y. p y ≡ true) x xs pass) (ap (λ (n : ℕ). 1 + n) (run_exact p xs ys (All-tail (λ y. p y ≡ true) x xs pass) stop) ∙ omega arith)

one_more : (n : ℕ) → suc n ≡ 1 + n
one_more n = omega arith

behind : (p : ℕ → Bool) (x : ℕ) (xs : List ℕ) → BeginsOutside p (drop (prefix_len p xs) xs) → BeginsOutside p (drop (1 + prefix_len p xs) (x ∷ xs))
behind p x xs stops = subst (λ n. BeginsOutside p (drop n (x ∷ xs))) (one_more (prefix_len p xs)) stops

-- a run is followed by a byte that does not pass
pub run_stops : (p : ℕ → Bool) (bytes : List ℕ) → BeginsOutside p (drop (prefix_len p bytes) bytes)
run_stops p [] = λ some. absurd (omega arith)
run_stops p (x ∷ xs) = elim (cases_Bool (p x)) as (λ _. BeginsOutside p (drop (prefix_len p (x ∷ xs)) (x ∷ xs))) [
  | inl is ↦ rw is (behind p x xs (run_stops p xs))
  | inr none ↦ rw none (λ some. none)
]
