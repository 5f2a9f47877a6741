-- The table of the digits of processors.
use Rattle.std.proofs.Common.{◌≡◌, ℕ, zero, suc, ◌+◌, ◌-◌, ◌*◌, ◌/◌, ◌%◌, ◌<◌, ◌≤◌, Bool, true, ◌&&◌, T, eqb, List, [], ◌∷◌, ◌++◌, length, get_or, take, drop, refl, sym, ap, subst, ◌∙◌, eq-zero-or-pos, eqb→eq, arith, inl, inr}
use Rattle.std.specs.Prelude.{codes}
use Rattle.std.specs.Fmt.{decimal}
use Rattle.std.proofs.lemmas.List.{length-drop, drop-drop}
use lib.Ieee.Fits.{and_l, and_r}
use Rattle.line_columns.specs.Columns.{zeros}
use Rattle.line_columns.proofs.ZeroFills.{three_front}
use Rattle.line_fronts.specs.declared.places.TheConstants.{PLACES}
use Rattle.line_fronts.proofs.UsualFronts.{filled}

-- the four bytes of a number, which stand at the front
abbrev at_front : List ℕ → ℕ → ℕ → Bool
at_front bytes i b = eqb (get_or bytes i 0) b

abbrev is_place : ℕ → List ℕ → Bool
is_place n bytes = at_front bytes 0 (48 + n / 100) && (at_front bytes 1 (48 + n % 100 / 10) && (at_front bytes 2 (48 + n % 100 % 10) && at_front bytes 3 93))

-- so many numbers from one on stand one after another
are_places : ℕ → ℕ → List ℕ → Bool
are_places zero n bytes = true
are_places (suc count) n bytes = is_place n bytes && are_places count (suc n) (drop 4 bytes)

place_at : (count n i m at : ℕ) (bytes : List ℕ) → T (are_places count n bytes) → i < count → m ≡ n + i → at ≡ i * 4 → T (is_place m (drop at bytes))
unfolding are_places
place_at zero n i m at bytes test less is_m is_at = absurd (omega (arith, less))
place_at (suc count) n i m at bytes test less is_m is_at = elim (eq-zero-or-pos i) [
  | inl z ↦
      let same : n ≡ m = omega (arith, z, is_m) in
      let here : 0 ≡ at = omega (arith, z, is_at) in
      subst (λ (k : ℕ). T (is_place k (drop at bytes))) same (subst (λ (k : ℕ). T (is_place n (drop k bytes))) here (and_l (is_place n bytes) _ test))
  | inr more ↦
      let further : 4 + (at - 4) ≡ at = omega (arith, more, is_at) in
      subst (λ (k : ℕ). T (is_place m (drop k bytes))) further
      (subst (λ (l : List ℕ). T (is_place m l)) (drop-drop (at - 4) 4 bytes) (place_at count (suc n) (i - 1) m (at - 4) (drop 4 bytes) (and_r (is_place n bytes) _ test) (omega (arith, less, more)) (omega (arith, is_m, more)) (omega (arith, is_at, more))))
]

front : (bytes : List ℕ) → 4 ≤ length bytes → bytes ≡ get_or bytes 0 0 ∷ get_or bytes 1 0 ∷ get_or bytes 2 0 ∷ get_or bytes 3 0 ∷ drop 4 bytes
front [] long = absurd (omega (arith, long))
front (a ∷ []) long = absurd (omega (arith, long))
front (a ∷ b ∷ []) long = absurd (omega (arith, long))
front (a ∷ b ∷ c ∷ []) long = absurd (omega (arith, long))
front (a ∷ b ∷ c ∷ d ∷ rest) long = refl

begins : (n : ℕ) (bytes : List ℕ) → n < 1000 → 4 ≤ length bytes → T (is_place n bytes) → take 4 bytes ≡ zeros 3 (decimal n) ++ codes "]"
begins n bytes small long row =
    let behind = and_r (at_front bytes 0 (48 + n / 100)) _ row in
    let last = and_r (at_front bytes 1 (48 + n % 100 / 10)) _ behind in
    let first : get_or bytes 0 0 ≡ 48 + n / 100 = eqb→eq _ _ (and_l (at_front bytes 0 (48 + n / 100)) _ row) in
    let second : get_or bytes 1 0 ≡ 48 + n % 100 / 10 = eqb→eq _ _ (and_l (at_front bytes 1 (48 + n % 100 / 10)) _ behind) in
    let third : get_or bytes 2 0 ≡ 48 + n % 100 % 10 = eqb→eq _ _ (and_l _ (at_front bytes 3 93) last) in
    let bracket : get_or bytes 3 0 ≡ 93 = eqb→eq _ _ (and_r (at_front bytes 2 (48 + n % 100 % 10)) _ last) in
    ap (take 4) (front bytes long)
    ∙ ap (λ (a : ℕ). a ∷ get_or bytes 1 0 ∷ get_or bytes 2 0 ∷ get_or bytes 3 0 ∷ []) first
    ∙ ap (λ (b : ℕ). (48 + n / 100) ∷ b ∷ get_or bytes 2 0 ∷ get_or bytes 3 0 ∷ []) second
    ∙ ap (λ (c : ℕ). (48 + n / 100) ∷ (48 + n % 100 / 10) ∷ c ∷ get_or bytes 3 0 ∷ []) third
    ∙ ap (λ (d : ℕ). (48 + n / 100) ∷ (48 + n % 100 / 10) ∷ (48 + n % 100 % 10) ∷ d ∷ []) bracket
    ∙ ap (λ (l : List ℕ). (48 + n / 100) ∷ (l ++ codes "]")) (sym (filled (n % 100) (omega arith)))
    ∙ three_front n (codes "]") small

-- the table
length_table : length PLACES ≡ 4000
length_table = refl

room_at : (n : ℕ) → n < 1000 → 4 ≤ length (drop (n * 4) PLACES)
room_at n small = omega (arith, small, length-drop (n * 4) PLACES, length_table)

digits_at : (n : ℕ) → n < 1000 → take 4 (drop (n * 4) PLACES) ≡ zeros 3 (decimal n) ++ codes "]"
unfolding are_places
digits_at n small = begins n (drop (n * 4) PLACES) small (room_at n small) (place_at 1000 0 n n (n * 4) PLACES tt small (omega arith) refl)

pub table_long : (table : List ℕ) → table ≡ PLACES → length table ≡ 4000
table_long table is = ap length is ∙ length_table

pub table_digits : (table : List ℕ) (n count : ℕ) → table ≡ PLACES → n < 1000 → count ≡ 4 → take count (drop (n * 4) table) ≡ zeros 3 (decimal n) ++ codes "]"
table_digits table n count is small four = ap (λ (k : ℕ). take k (drop (n * 4) table)) four ∙ ap (λ (l : List ℕ). take 4 (drop (n * 4) l)) is ∙ digits_at n small
