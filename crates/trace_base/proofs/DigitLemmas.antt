-- The digits of a number, from the last to the first.
use Rattle.std.proofs.Common.{◌≡◌, ℕ, zero, suc, ◌-◌, ◌<◌, ◌≤◌, ◌/◌, ◌%◌, Bool, List, ◌∷◌, drop, length, set, refl, sym, ap, ◌∙◌, arith}
use Rattle.std.specs.Fmt.{digits, digits_onto, digit_glyph}
use Rattle.std.proofs.lemmas.List.{drop-set, drop_all}
use Rattle.std.proofs.lemmas.Bool.{ne_eqb}

-- what the digits will be, when those that were written stand before the last ones
pub left_digits : ℕ → ℕ → Bool → ℕ → List ℕ → List ℕ
left_digits at base upper n acc = digits_onto at base upper n acc

pub digits_start : (base : ℕ) (upper : Bool) (n : ℕ) (buffer : List ℕ) → length buffer ≡ 64 → left_digits 64 base upper n (drop 64 buffer) ≡ digits base upper n
unfolding left_digits digits
digits_start base upper n buffer is = ap (digits_onto 64 base upper n) (drop_all 64 buffer (omega arith))

pub digits_end : (base : ℕ) (upper : Bool) (at n : ℕ) (acc : List ℕ) → at ≡ 0 → left_digits at base upper n acc ≡ acc
unfolding left_digits
digits_end base upper at n acc none = ap (λ (k : ℕ). digits_onto k base upper n acc) none

-- the buffer with one more digit
pub before : (buffer : List ℕ) (at digit : ℕ) → 0 < at → at ≤ length buffer → drop (at - 1) (set buffer (at - 1) digit) ≡ digit ∷ drop at buffer
before buffer at digit some le = drop-set buffer (at - 1) digit (omega arith) ∙ ap (λ (n : ℕ). digit ∷ drop n buffer) (omega arith)

pub digits_more : (base : ℕ) (upper : Bool) (at n rest : ℕ) (buffer : List ℕ) (digit : ℕ) → 0 < at → at ≤ length buffer → rest ≡ n / base → 0 < rest → digit ≡ digit_glyph upper (n % base)
    → left_digits (at - 1) base upper rest (drop (at - 1) (set buffer (at - 1) digit)) ≡ left_digits at base upper n (drop at buffer)
unfolding left_digits
digits_more base upper zero n rest buffer digit some le is_rest more is_digit = absurd (omega arith)
digits_more base upper (suc k) n rest buffer digit some le is_rest more is_digit =
    ap (digits_onto (suc k - 1) base upper rest) (before buffer (suc k) digit some le)
    ∙ ap (λ (m : ℕ). digits_onto m base upper rest (digit ∷ drop (suc k) buffer)) (omega arith)
    ∙ ap (λ (d : ℕ). digits_onto k base upper rest (d ∷ drop (suc k) buffer)) is_digit
    ∙ ap (λ (m : ℕ). digits_onto k base upper m (digit_glyph upper (n % base) ∷ drop (suc k) buffer)) is_rest
    ∙ sym (rw (ne_eqb (n / base) 0 (omega (arith, is_rest, more))) refl)

pub digits_last : (base : ℕ) (upper : Bool) (at n rest : ℕ) (buffer : List ℕ) (digit : ℕ) → 0 < at → at ≤ length buffer → rest ≡ n / base → rest ≡ 0 → digit ≡ digit_glyph upper (n % base)
    → drop (at - 1) (set buffer (at - 1) digit) ≡ left_digits at base upper n (drop at buffer)
unfolding left_digits
digits_last base upper zero n rest buffer digit some le is_rest none is_digit = absurd (omega arith)
digits_last base upper (suc k) n rest buffer digit some le is_rest none is_digit =
    before buffer (suc k) digit some le
    ∙ ap (λ (d : ℕ). d ∷ drop (suc k) buffer) is_digit
    ∙ sym (rw (sym is_rest ∙ none) refl)
