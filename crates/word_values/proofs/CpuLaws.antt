-- A set of processors that gains one range after another.
use Rattle.std.proofs.Common.{◌≡◌, ℕ, suc, zero, ◌+◌, ◌-◌, ◌<◌, ◌≤◌, Bool, true, false, ◌||◌, ◌&&◌, nat_lt, get_or, List, [], ◌∷◌, ◌++◌, map, length, take, drop, Option, Some, None, option_map, refl, ap, sym, ◌∙◌, arith, replicate}
use Rattle.std.specs.List.{list_any, range_with_len, slice_split}
use Rattle.std.proofs.lemmas.Bool.Decides.{nat_tests}
use Rattle.word_values.specs.Views.{range_view}
use Rattle.word_values.specs.CpuList.{Range, is_in, marked, with_range, members_below, ranges_of, cpu_set, is_separator}

or_false : (b : Bool) → (b || false) ≡ b
or_false true = refl
or_false false = refl

or_true : (b : Bool) → (b || true) ≡ true
or_true true = refl
or_true false = refl

or_or : (a b c : Bool) → ((a || b) || c) ≡ (a || (b || c))
or_or true b c = refl
or_or false b c = refl

pub marked_none : (k : ℕ) (members : List Bool) → marked k (λ cpu. false) members ≡ members
marked_none k [] = refl
marked_none k (m ∷ members) = rw (or_false m, marked_none (k + 1) members) refl

pub marked_twice : (k : ℕ) (p q : ℕ → Bool) (members : List Bool) → marked k p (marked k q members) ≡ marked k (λ cpu. q cpu || p cpu) members
marked_twice k p q [] = refl
marked_twice k p q (m ∷ members) =
    rw (or_or m (q k) (p k), marked_twice (k + 1) p q members) refl

pub marked-replicate : (k n : ℕ) (p : ℕ → Bool) → marked k p (replicate n false) ≡ map p (range_with_len k n)
marked-replicate k zero p = refl
marked-replicate k (suc n) p = ap (λ members. p k ∷ members) (marked-replicate (k + 1) n p)

-- the ranges one after another
abbrev pub added : List Bool → List Range → List Bool
added members [] = members
added members (range ∷ ranges) = added (with_range members range) ranges

added_is : (members : List Bool) (ranges : List Range) → added members ranges ≡ marked 0 (λ cpu. list_any (is_in cpu) ranges) members
added_is members [] = sym (marked_none 0 members)
added_is members (range ∷ ranges) =
    added_is (with_range members range) ranges
    ∙ marked_twice 0 (λ cpu. list_any (is_in cpu) ranges) (λ cpu. is_in cpu range) members

pub added_to_none : (n : ℕ) (ranges : List Range) → added (replicate n false) ranges ≡ members_below n ranges
added_to_none n ranges =
    added_is (replicate n false) ranges ∙ marked-replicate 0 n (λ cpu. list_any (is_in cpu) ranges)

-- numbers after a range
behind : (k : ℕ) (range : Range) (members : List Bool) → range.last < k → marked k (λ cpu. is_in cpu range) members ≡ members
behind k range [] h = refl
behind k range (m ∷ members) h =
    let out : is_in k range ≡ false = grind (arith, nat_tests) in
    rw (out, or_false m, behind (k + 1) range members (omega arith)) refl

-- numbers from inside a range on
inside : (n k : ℕ) (range : Range) (members : List Bool) → range.first ≤ k → k + n ≡ range.last + 1 → n ≤ length members → replicate n true ++ drop n members ≡ marked k (λ cpu. is_in cpu range) members
inside zero k range members low high fits = sym (behind k range members (omega arith))
inside (suc n) k range [] low high fits = absurd (omega arith)
inside (suc n) k range (m ∷ members) low high fits =
    let is : is_in k range ≡ true = grind (arith, nat_tests) in
    rw (is, or_true m, inside n (k + 1) range members (omega arith) (omega arith) (omega arith)) refl

before : (a n k : ℕ) (range : Range) (members : List Bool) → k + a ≡ range.first → k + (a + n) ≡ range.last + 1 → a + n ≤ length members → take a members ++ (replicate n true ++ drop (a + n) members) ≡ marked k (λ cpu. is_in cpu range) members
before zero n k range members low high fits =
    let e : 0 + n ≡ n = omega arith in
    rw e (inside n k range members (omega arith) (omega arith) (omega arith))
before (suc a) n k range [] low high fits = absurd (omega arith)
before (suc a) n k range (m ∷ members) low high fits =
    let out : is_in k range ≡ false = grind (arith, nat_tests) in
    let e : suc a + n ≡ suc (a + n) = omega arith in
    rw (out, or_false m, e, before a n (k + 1) range members (omega arith) (omega arith) (omega arith)) refl

-- a range that is filled in place
pub filled_is_marked : (first last : ℕ) (members : List Bool) → first ≤ last → last < length members → take first members ++ (replicate (last + 1 - first) true ++ drop (last + 1) members) ≡ with_range members (range_view (first, last))
filled_is_marked first last members order fits =
    let e : first + (last + 1 - first) ≡ last + 1 = omega arith in
    rw e at (before first (last + 1 - first) 0 (range_view (first, last)) members (omega arith) (omega arith) (omega arith))

from_none : (members : List Bool) (ranges : Option (List Range)) → members ≡ replicate 1024 false → option_map (added members) ranges ≡ option_map (members_below 1024) ranges
from_none members None h = refl
from_none members (Some ranges) h =
    ap Some (ap (λ ms. added ms ranges) h ∙ added_to_none 1024 ranges)

-- the ranges of a list, added to no numbers
pub cpu_set_from : (text : List ℕ) (members : List Bool) → members ≡ replicate 1024 false → option_map (added members) (ranges_of (slice_split is_separator text)) ≡ cpu_set text
unfolding cpu_set
cpu_set_from text members h = from_none members (ranges_of (slice_split is_separator text)) h

same_tests : (b c : Bool) → b ≡ c → (m n : ℕ) → m ≡ n → (p : ℕ → Bool) → (b && p m) ≡ (c && p n)
same_tests b c e m n h p = rw (e, h) refl

listed : (n a i : ℕ) (p : ℕ → Bool) → get_or (map p (range_with_len a n)) i false ≡ (nat_lt i n && p (a + i))
listed zero a i p =
    let none : nat_lt i 0 ≡ false = grind (arith, nat_tests) in rw none refl
listed (suc n) a zero p =
    let here : nat_lt 0 (suc n) ≡ true = grind (arith, nat_tests) in
    let same : a + 0 ≡ a = omega arith in
    rw (here, same) refl
listed (suc n) a (suc i) p =
    listed n (a + 1) i p ∙ same_tests (nat_lt i n) (nat_lt (suc i) (suc n)) (grind (arith, nat_tests)) (a + 1 + i) (a + suc i) (omega arith) p

-- a number is a member exactly where it lies below the limit and in one of the ranges
pub members_below-at : (limit : ℕ) (ranges : List Range) (cpu : ℕ) → get_or (members_below limit ranges) cpu false ≡ (nat_lt cpu limit && list_any (is_in cpu) ranges)
members_below-at limit ranges cpu =
    let same : 0 + cpu ≡ cpu = omega arith in
    rw same at (listed limit 0 cpu (λ c. list_any (is_in c) ranges))
