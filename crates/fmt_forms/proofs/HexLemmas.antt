-- The lower hexadecimal digits of a number, two at a time.
use Rattle.std.proofs.Common.{◌≡◌, ℕ, zero, suc, ◌+◌, ◌-◌, ◌*◌, ◌/◌, ◌%◌, ◌^◌, ◌<◌, ◌≤◌, Bool, true, false, ◌&&◌, T, eqb, List, [], ◌∷◌, ◌++◌, length, get_or, refl, sym, ap, ◌∙◌, append_assoc, length-append, eq-zero-or-pos, eqb→eq, arith, inl, inr}
use Rattle.std.specs.Fmt.{digits, digits_onto, digit_glyph}
use Rattle.std.proofs.lemmas.Bool.{cases_lt, ne_eqb}
use Rattle.std.proofs.lemmas.Fmt.{hex_one_digit, hex_two_digits}
use lib.Ieee.Fits.{and_l, and_r}
use Rattle.fmt_forms.specs.declared.hexadecimal.TheConstants.{PAIRS}

abbrev pub hex : ℕ → List ℕ
hex n = digits 16 false n

abbrev glyph : ℕ → ℕ
glyph n = digit_glyph false n

abbrev pub pair : ℕ → List ℕ
pair p = glyph (p / 16) ∷ glyph (p % 16) ∷ []

-- the table has both digits of each byte
abbrev are_pairs : ℕ → Bool
are_pairs zero = true
are_pairs (suc p) = (eqb (get_or PAIRS (p * 2) 0) (glyph (p / 16)) && eqb (get_or PAIRS (p * 2 + 1) 0) (glyph (p % 16))) && are_pairs p

abbrev IsPair : ℕ → Type 0
IsPair p = (get_or PAIRS (p * 2) 0 ≡ glyph (p / 16)) × (get_or PAIRS (p * 2 + 1) 0 ≡ glyph (p % 16))

below : (count p : ℕ) → T (are_pairs count) → p < count → IsPair p
below zero p test less = absurd (omega arith)
below (suc count) p test less = elim (eq-zero-or-pos (count - p)) [
  | inl z ↦ let same : p ≡ count = omega arith in let both = and_l _ (are_pairs count) test in rw same (eqb→eq _ _ (and_l _ _ both), eqb→eq _ _ (and_r _ _ both))
  | inr more ↦ below count p (and_r _ (are_pairs count) test) (omega arith)
]

pub pair_at : (p : ℕ) → p < 256 → IsPair p
pair_at p small = below 256 p tt small

-- the digits, one at a time
abbrev spell : ℕ → ℕ → List ℕ → List ℕ
spell k n acc = digits_onto k 16 false n acc

spell_last : (k n : ℕ) (acc : List ℕ) → n < 16 → spell (suc k) n acc ≡ glyph (n % 16) ∷ acc
spell_last k n acc less = let none : n / 16 ≡ 0 = omega (arith, less) in rw none refl

spell_next : (k n : ℕ) (acc : List ℕ) → 16 ≤ n → spell (suc k) n acc ≡ spell k (n / 16) (glyph (n % 16) ∷ acc)
spell_next k n acc le = rw (ne_eqb (n / 16) 0 (λ e. omega (arith, le, e))) refl

spell_append : (k n : ℕ) (acc : List ℕ) → spell k n acc ≡ spell k n [] ++ acc
spell_append zero n acc = refl
spell_append (suc k) n acc = elim (cases_lt n 16) as (λ _. spell (suc k) n acc ≡ spell (suc k) n [] ++ acc) [
  | inl l ↦ spell_last k n acc l ∙ ap (λ (x : List ℕ). x ++ acc) (sym (spell_last k n [] l))
  | inr l ↦ spell_next k n acc l ∙ spell_append k (n / 16) (glyph (n % 16) ∷ acc) ∙ sym (append_assoc (spell k (n / 16) []) (glyph (n % 16) ∷ []) acc) ∙ ap (λ (x : List ℕ). x ++ acc) (sym (spell_next k n [] l ∙ spell_append k (n / 16) (glyph (n % 16) ∷ [])))
]

-- the limit of the digits does not matter once it is large enough
spell_enough : (j k n : ℕ) (acc : List ℕ) → n < 16 ^ suc j → n < 16 ^ suc k → spell (suc j) n acc ≡ spell (suc k) n acc
spell_enough zero k n acc p q = spell_last zero n acc (omega (arith, p)) ∙ sym (spell_last k n acc (omega (arith, p)))
spell_enough (suc j) zero n acc p q = spell_last (suc j) n acc (omega (arith, q)) ∙ sym (spell_last zero n acc (omega (arith, q)))
spell_enough (suc j) (suc k) n acc p q = elim (cases_lt n 16) as (λ _. spell (suc (suc j)) n acc ≡ spell (suc (suc k)) n acc) [
  | inl l ↦ spell_last (suc j) n acc l ∙ sym (spell_last (suc k) n acc l)
  | inr l ↦ spell_next (suc j) n acc l ∙ spell_enough j k (n / 16) (glyph (n % 16) ∷ acc) (omega (arith, p)) (omega (arith, q)) ∙ sym (spell_next (suc k) n acc l)
]

hex_step : (n : ℕ) → 16 ≤ n → n < 2 ^ 64 → hex n ≡ hex (n / 16) ++ (glyph (n % 16) ∷ [])
unfolding digits
hex_step n le small = spell_next 63 n [] le ∙ spell_enough 62 63 (n / 16) (glyph (n % 16) ∷ []) (omega (arith, small)) (omega (arith, small)) ∙ spell_append 64 (n / 16) (glyph (n % 16) ∷ [])

-- and two at a time
pub hex_one : (n : ℕ) → n < 16 → hex n ≡ glyph n ∷ []
hex_one n small = hex_one_digit false n small

pub length_one : (n : ℕ) → n < 16 → length (hex n) ≡ 1
length_one n small = ap length (hex_one n small)

pub hex_two : (n : ℕ) → 16 ≤ n → n < 256 → hex n ≡ pair n
hex_two n le small = hex_two_digits false n le small

pub length_two : (n : ℕ) → 16 ≤ n → n < 256 → length (hex n) ≡ 2
length_two n le small = ap length (hex_two n le small)

pub hex_pair : (n : ℕ) → 256 ≤ n → n < 2 ^ 64 → hex n ≡ hex (n / 256) ++ pair (n % 256)
hex_pair n le small =
    let a : n / 16 / 16 ≡ n / 256 = omega arith in
    let b : n / 16 % 16 ≡ n % 256 / 16 = omega arith in
    let c : n % 16 ≡ n % 256 % 16 = omega arith in
    hex_step n (omega (arith, le)) small
    ∙ ap (λ (l : List ℕ). l ++ (glyph (n % 16) ∷ [])) (hex_step (n / 16) (omega (arith, le)) (omega (arith, small)))
    ∙ append_assoc (hex (n / 16 / 16)) (glyph (n / 16 % 16) ∷ []) (glyph (n % 16) ∷ [])
    ∙ ap (λ (m : ℕ). hex m ++ (glyph (n / 16 % 16) ∷ glyph (n % 16) ∷ [])) a
    ∙ ap (λ (d : ℕ). hex (n / 256) ++ (glyph d ∷ glyph (n % 16) ∷ [])) b
    ∙ ap (λ (d : ℕ). hex (n / 256) ++ (glyph (n % 256 / 16) ∷ glyph d ∷ [])) c

pub length_pair : (n : ℕ) → 256 ≤ n → n < 2 ^ 64 → length (hex n) ≡ length (hex (n / 256)) + 2
length_pair n le small = ap length (hex_pair n le small) ∙ length-append (hex (n / 256)) (pair (n % 256))

-- how many digits there are at most
length_first : (n : ℕ) → n < 256 → length (hex n) ≤ 2
length_first n small = elim (cases_lt n 16) as (λ _. length (hex n) ≤ 2) [
  | inl l ↦ omega (arith, length_one n l)
  | inr l ↦ omega (arith, length_two n l small)
]

length_more : (m len : ℕ) → ((n : ℕ) → n < m → length (hex n) ≤ len) → (n : ℕ) → n < 2 ^ 64 → n < m * 256 → length (hex n) ≤ len + 2
length_more m len shorter n small less = elim (cases_lt n 256) as (λ _. length (hex n) ≤ len + 2) [
  | inl l ↦ omega (arith, length_first n l)
  | inr l ↦ omega (arith, length_pair n l small, shorter (n / 256) (omega (arith, less)))
]

pub length_hex : (n : ℕ) → n < 2 ^ 64 → length (hex n) ≤ 16
length_hex n small =
    let two = λ (k : ℕ) (l : k < 65536). length_more 256 2 length_first k (omega (arith, l)) (omega (arith, l)) in
    let three = λ (k : ℕ) (l : k < 16777216). length_more 65536 4 two k (omega (arith, l)) (omega (arith, l)) in
    let four = λ (k : ℕ) (l : k < 4294967296). length_more 16777216 6 three k (omega (arith, l)) (omega (arith, l)) in
    let five = λ (k : ℕ) (l : k < 1099511627776). length_more 4294967296 8 four k (omega (arith, l)) (omega (arith, l)) in
    let six = λ (k : ℕ) (l : k < 281474976710656). length_more 1099511627776 10 five k (omega (arith, l)) (omega (arith, l)) in
    let seven = λ (k : ℕ) (l : k < 72057594037927936). length_more 281474976710656 12 six k (omega (arith, l)) (omega (arith, l)) in
    length_more 72057594037927936 14 seven n small (omega (arith, small))

pub some_digit : (n : ℕ) → n < 2 ^ 64 → 1 ≤ length (hex n)
some_digit n small = elim (cases_lt n 16) as (λ _. 1 ≤ length (hex n)) [
  | inl l ↦ omega (arith, length_one n l)
  | inr l ↦ elim (cases_lt n 256) as (λ _. 1 ≤ length (hex n)) [
    | inl m ↦ omega (arith, length_two n l m)
    | inr m ↦ omega (arith, length_pair n m small)
  ]
]
