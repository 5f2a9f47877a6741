-- The table of the digits of numbers below 1,000.
use Rattle.std.proofs.Common.{◌≡◌, ℕ, zero, suc, ◌+◌, ◌-◌, ◌*◌, ◌/◌, ◌%◌, ◌<◌, ◌≤◌, Bool, true, ◌&&◌, T, eqb, List, [], ◌∷◌, ◌++◌, length, get_or, take, drop, refl, sym, ap, subst, ◌∙◌, eq-zero-or-pos, eqb→eq, arith, inl, inr}
use Rattle.std.specs.Fmt.{decimal}
use Rattle.std.proofs.lemmas.Bool.{cases_lt}
use Rattle.std.proofs.lemmas.Fmt.{decimal_digit, decimal_step}
use Rattle.std.proofs.lemmas.List.{length-drop, drop-drop, get_or-drop, take_all}
use lib.Ieee.Fits.{and_l, and_r}
use Rattle.fmt_forms.specs.declared.few_digits.TheConstants.{FEW}

-- what the four bytes of a number are, which stand at the front
abbrev at_front : List ℕ → ℕ → ℕ → Bool
at_front bytes i b = eqb (get_or bytes i 0) b

abbrev is_one : ℕ → List ℕ → Bool
is_one n bytes = at_front bytes 3 49 && at_front bytes 0 (48 + n)

abbrev is_two : ℕ → List ℕ → Bool
is_two n bytes = at_front bytes 3 50 && (at_front bytes 0 (48 + n / 10) && at_front bytes 1 (48 + n % 10))

abbrev is_three : ℕ → List ℕ → Bool
is_three n bytes = at_front bytes 3 51 && (at_front bytes 0 (48 + n / 10 / 10) && (at_front bytes 1 (48 + n / 10 % 10) && at_front bytes 2 (48 + n % 10)))

-- so many numbers from one on stand one after another
module _ (is : ℕ → List ℕ → Bool) where
  are_rows : ℕ → ℕ → List ℕ → Bool
  are_rows zero n bytes = true
  are_rows (suc count) n bytes = is n bytes && are_rows count (suc n) (drop 4 bytes)

  row_at : (count n i m place : ℕ) (bytes : List ℕ) → T (are_rows count n bytes) → i < count → m ≡ n + i → place ≡ i * 4 → T (is m (drop place bytes))
  unfolding are_rows
  row_at zero n i m place bytes test less is_m is_place = absurd (omega (arith, less))
  row_at (suc count) n i m place bytes test less is_m is_place = elim (eq-zero-or-pos i) [
    | inl z ↦
        let same : n ≡ m = omega (arith, z, is_m) in
        let here : 0 ≡ place = omega (arith, z, is_place) in
        subst (λ (k : ℕ). T (is k (drop place bytes))) same (subst (λ (k : ℕ). T (is n (drop k bytes))) here (and_l (is n bytes) _ test))
    | inr more ↦
        let further : 4 + (place - 4) ≡ place = omega (arith, more, is_place) in
        subst (λ (k : ℕ). T (is m (drop k bytes))) further
        (subst (λ (l : List ℕ). T (is m l)) (drop-drop (place - 4) 4 bytes) (row_at count (suc n) (i - 1) m (place - 4) (drop 4 bytes) (and_r (is n bytes) _ test) (omega (arith, less, more)) (omega (arith, is_m, more)) (omega (arith, is_place, more))))
  ]

-- numbers of one, two and three digits
front : (bytes : List ℕ) → 4 ≤ length bytes → bytes ≡ get_or bytes 0 0 ∷ get_or bytes 1 0 ∷ get_or bytes 2 0 ∷ get_or bytes 3 0 ∷ drop 4 bytes
front [] long = absurd (omega (arith, long))
front (a ∷ []) long = absurd (omega (arith, long))
front (a ∷ b ∷ []) long = absurd (omega (arith, long))
front (a ∷ b ∷ c ∷ []) long = absurd (omega (arith, long))
front (a ∷ b ∷ c ∷ d ∷ rest) long = refl

abbrev Begins : ℕ → List ℕ → Type 0
Begins n bytes = (take (get_or bytes 3 0 - 48) bytes ≡ decimal n) × ((49 ≤ get_or bytes 3 0) × (get_or bytes 3 0 ≤ 51))

one_begins : (n : ℕ) (bytes : List ℕ) → n < 10 → 4 ≤ length bytes → T (is_one n bytes) → Begins n bytes
one_begins n bytes small long row =
    let count : get_or bytes 3 0 ≡ 49 = eqb→eq _ _ (and_l _ (at_front bytes 0 (48 + n)) row) in
    let first : get_or bytes 0 0 ≡ 48 + n = eqb→eq _ _ (and_r (at_front bytes 3 49) _ row) in (
      ap (λ (k : ℕ). take (k - 48) bytes) count ∙ ap (take 1) (front bytes long) ∙ ap (λ (a : ℕ). a ∷ []) first ∙ sym (decimal_digit n small),
      (omega (arith, count), omega (arith, count)),
    )

two_digits : (n : ℕ) → 10 ≤ n → n < 100 → decimal n ≡ (48 + n / 10) ∷ (48 + n % 10) ∷ []
two_digits n le small = decimal_step n le (omega (arith, small)) ∙ ap (λ (l : List ℕ). l ++ ((48 + n % 10) ∷ [])) (decimal_digit (n / 10) (omega (arith, small)))

two_begins : (n : ℕ) (bytes : List ℕ) → 10 ≤ n → n < 100 → 4 ≤ length bytes → T (is_two n bytes) → Begins n bytes
two_begins n bytes le small long row =
    let digits = and_r (at_front bytes 3 50) _ row in
    let count : get_or bytes 3 0 ≡ 50 = eqb→eq _ _ (and_l (at_front bytes 3 50) _ row) in
    let first : get_or bytes 0 0 ≡ 48 + n / 10 = eqb→eq _ _ (and_l _ (at_front bytes 1 (48 + n % 10)) digits) in
    let second : get_or bytes 1 0 ≡ 48 + n % 10 = eqb→eq _ _ (and_r (at_front bytes 0 (48 + n / 10)) _ digits) in (
      ap (λ (k : ℕ). take (k - 48) bytes) count
          ∙ ap (take 2) (front bytes long)
          ∙ ap (λ (a : ℕ). a ∷ get_or bytes 1 0 ∷ []) first
          ∙ ap (λ (b : ℕ). (48 + n / 10) ∷ b ∷ []) second
          ∙ sym (two_digits n le small),
      (omega (arith, count), omega (arith, count)),
    )

three_digits : (n : ℕ) → 100 ≤ n → n < 1000 → decimal n ≡ (48 + n / 10 / 10) ∷ (48 + n / 10 % 10) ∷ (48 + n % 10) ∷ []
three_digits n le small =
    decimal_step n (omega (arith, le)) (omega (arith, small)) ∙ ap (λ (l : List ℕ). l ++ ((48 + n % 10) ∷ [])) (two_digits (n / 10) (omega (arith, le)) (omega (arith, small)))

three_begins : (n : ℕ) (bytes : List ℕ) → 100 ≤ n → n < 1000 → 4 ≤ length bytes → T (is_three n bytes) → Begins n bytes
three_begins n bytes le small long row =
    let digits = and_r (at_front bytes 3 51) _ row in
    let behind = and_r (at_front bytes 0 (48 + n / 10 / 10)) _ digits in
    let count : get_or bytes 3 0 ≡ 51 = eqb→eq _ _ (and_l (at_front bytes 3 51) _ row) in
    let first : get_or bytes 0 0 ≡ 48 + n / 10 / 10 = eqb→eq _ _ (and_l (at_front bytes 0 (48 + n / 10 / 10)) _ digits) in
    let second : get_or bytes 1 0 ≡ 48 + n / 10 % 10 = eqb→eq _ _ (and_l _ (at_front bytes 2 (48 + n % 10)) behind) in
    let third : get_or bytes 2 0 ≡ 48 + n % 10 = eqb→eq _ _ (and_r (at_front bytes 1 (48 + n / 10 % 10)) _ behind) in (
      ap (λ (k : ℕ). take (k - 48) bytes) count
          ∙ ap (take 3) (front bytes long)
          ∙ ap (λ (a : ℕ). a ∷ get_or bytes 1 0 ∷ get_or bytes 2 0 ∷ []) first
          ∙ ap (λ (b : ℕ). (48 + n / 10 / 10) ∷ b ∷ get_or bytes 2 0 ∷ []) second
          ∙ ap (λ (c : ℕ). (48 + n / 10 / 10) ∷ (48 + n / 10 % 10) ∷ c ∷ []) third
          ∙ sym (three_digits n le small),
      (omega (arith, count), omega (arith, count)),
    )

-- the table
length_table : length FEW ≡ 4012
length_table = refl

room_at : (n : ℕ) → n < 1000 → 4 ≤ length (drop (n * 4) FEW)
room_at n small = omega (arith, small, length-drop (n * 4) FEW, length_table)

row_of_many : (n : ℕ) → 10 ≤ n → n < 1000 → Begins n (drop (n * 4) FEW)
unfolding are_rows
row_of_many n le small = elim (cases_lt n 100) as (λ _. Begins n (drop (n * 4) FEW)) [
  | inl two ↦
      let there : 40 + (n * 4 - 40) ≡ n * 4 = omega (arith, le) in
      let row : T (is_two n (drop (n * 4 - 40) (drop 40 FEW))) = row_at is_two 90 10 (n - 10) n (n * 4 - 40) (drop 40 FEW) tt (omega (arith, two)) (omega (arith, le)) (omega (arith, le)) in
      two_begins n (drop (n * 4) FEW) le two (room_at n small)
      (subst (λ (l : List ℕ). T (is_two n l)) (drop-drop (n * 4 - 40) 40 FEW ∙ ap (λ (k : ℕ). drop k FEW) there) row)
  | inr three ↦
      let there : 400 + (n * 4 - 400) ≡ n * 4 = omega (arith, three) in
      let row : T (is_three n (drop (n * 4 - 400) (drop 400 FEW))) = row_at is_three 900 100 (n - 100) n (n * 4 - 400) (drop 400 FEW) tt (omega (arith, small)) (omega (arith, three)) (omega (arith, three)) in
      three_begins n (drop (n * 4) FEW) three small (room_at n small)
      (subst (λ (l : List ℕ). T (is_three n l)) (drop-drop (n * 4 - 400) 400 FEW ∙ ap (λ (k : ℕ). drop k FEW) there) row)
]

row_of : (n : ℕ) → n < 1000 → Begins n (drop (n * 4) FEW)
unfolding are_rows
row_of n small = elim (cases_lt n 10) as (λ _. Begins n (drop (n * 4) FEW)) [
  | inl one ↦ one_begins n (drop (n * 4) FEW) one (room_at n small) (row_at is_one 10 0 n n (n * 4) FEW tt one (omega arith) refl)
  | inr more ↦ row_of_many n more small
]

pub table_long : (table : List ℕ) → table ≡ FEW → length table ≡ 4012
table_long table is = ap length is ∙ length_table

pub table_digits : (table : List ℕ) (n : ℕ) → table ≡ FEW → n < 1000 → take (get_or table (n * 4 + 3) 0 - 48) (take (length table - n * 4) (drop (n * 4) table)) ≡ decimal n
table_digits table n is small =
    ap (λ (l : List ℕ). take (get_or table (n * 4 + 3) 0 - 48) l) (take_all (length table - n * 4) (drop (n * 4) table) (omega (arith, length-drop (n * 4) table)))
    ∙ ap (λ (l : List ℕ). take (get_or l (n * 4 + 3) 0 - 48) (drop (n * 4) l)) is
    ∙ ap (λ (k : ℕ). take (k - 48) (drop (n * 4) FEW)) (sym (get_or-drop (n * 4) FEW 3 0))
    ∙ (row_of n small).0

pub table_least : (table : List ℕ) (n : ℕ) → table ≡ FEW → n < 1000 → 48 ≤ get_or table (n * 4 + 3) 0
table_least table n is small =
    omega (arith, ap (λ (l : List ℕ). get_or l (n * 4 + 3) 0) is, get_or-drop (n * 4) FEW 3 0, (row_of n small).1.0)

pub table_most : (table : List ℕ) (n : ℕ) → table ≡ FEW → n < 1000 → get_or table (n * 4 + 3) 0 ≤ 51
table_most table n is small =
    omega (arith, ap (λ (l : List ℕ). get_or l (n * 4 + 3) 0) is, get_or-drop (n * 4) FEW 3 0, (row_of n small).1.1)
