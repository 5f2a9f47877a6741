-- What bytes stand for, one item after another.
use Rattle.std.proofs.Common.{◌≡◌, ℕ, zero, suc, ◌<◌, ◌≤◌, Bool, true, false, not, ◌||◌, ◌==◌, if◌then◌else◌, List, [], ◌∷◌, ◌++◌, length, drop, Some, None, refl, sym, ap, ◌∙◌, arith, append_assoc, append-nil}
use Rattle.std.specs.List.{list_any}
use Rattle.fmt_lexer.specs.Bytes.{backslash}
use Rattle.fmt_literal.specs.Escape.{Item, spelled, escape, item, is_plain, meant}
use Rattle.fmt_literal.specs.Quoted.{inside, only, letter_of}

pub meant_skip : (n : ℕ) (bytes : List ℕ) → meant n bytes ≡ meant 0 (drop n bytes)
unfolding meant
meant_skip zero bytes = refl
meant_skip (suc n) [] = refl
meant_skip (suc n) (b ∷ bytes) = meant_skip n bytes

pub meant_end : meant 0 [] ≡ []
unfolding meant
meant_end = refl

-- one item, and what follows it
pub meant_next : (b : ℕ) (bytes : List ℕ) → meant 0 (b ∷ bytes) ≡ (item b bytes).byte ∷ meant 0 (drop (item b bytes).len bytes)
unfolding meant
meant_next b bytes = ap (λ (out : List ℕ). (item b bytes).byte ∷ out) (meant_skip (item b bytes).len bytes)

meant_over : (n : ℕ) (bytes : List ℕ) → length bytes ≤ n → meant n bytes ≡ []
unfolding meant
meant_over zero [] le = refl
meant_over zero (b ∷ bytes) le = absurd (omega arith)
meant_over (suc n) [] le = refl
meant_over (suc n) (b ∷ bytes) le = meant_over n bytes (omega arith)

-- a byte that begins no escape stands for itself
item_plain : (b : ℕ) (bytes : List ℕ) → (b == backslash) ≡ false → item b bytes ≡ spelled b 0
unfolding item
item_plain b bytes e = ap (λ (c : Bool). if c then escape bytes else spelled b 0) e

not_either : (c d : Bool) → not (c || d) ≡ true → (c ≡ false) × (not d ≡ true)
not_either true d none = absurd cc
not_either false d none = (refl, none)

pub meant_plain : (bytes : List ℕ) → is_plain bytes ≡ true → meant 0 bytes ≡ bytes
meant_plain [] plain = meant_end
meant_plain (b ∷ bytes) plain =
    let parts = not_either (b == backslash) (list_any (λ c. c == backslash) bytes) plain in
    meant_next b bytes
    ∙ ap (λ (i : Item). i.byte ∷ meant 0 (drop i.len bytes)) (item_plain b bytes parts.0)
    ∙ ap (λ (out : List ℕ). b ∷ out) (meant_plain bytes parts.1)

two : (b : ℕ) (n : ℕ) (bytes : List ℕ) → n < length bytes → only (b ∷ meant n bytes) ≡ None
unfolding meant
two b zero [] lt = absurd (omega arith)
two b zero (c ∷ bytes) lt = refl
two b (suc n) [] lt = absurd (omega arith)
two b (suc n) (c ∷ bytes) lt = two b n bytes (omega arith)

pub empty_letter : (bytes : List ℕ) → inside bytes ≡ [] → letter_of bytes ≡ None
unfolding letter_of meant
empty_letter bytes e = ap (λ (i : List ℕ). only (meant 0 i)) e

pub letter_is : (bytes : List ℕ) (first : ℕ) (behind : List ℕ) → inside bytes ≡ first ∷ behind → length behind ≤ (item first behind).len → letter_of bytes ≡ Some (item first behind).byte
unfolding letter_of meant
letter_is bytes first behind e le =
    ap (λ (i : List ℕ). only (meant 0 i)) e ∙ ap (λ (out : List ℕ). only ((item first behind).byte ∷ out)) (meant_over (item first behind).len behind le)

pub no_letter : (bytes : List ℕ) (first : ℕ) (behind : List ℕ) → inside bytes ≡ first ∷ behind → (item first behind).len < length behind → letter_of bytes ≡ None
unfolding letter_of meant
no_letter bytes first behind e lt = ap (λ (i : List ℕ). only (meant 0 i)) e ∙ two (item first behind).byte (item first behind).len behind lt

-- one turn of the loop
pub meant_turn : (rest behind front more : List ℕ) (first len byte : ℕ) → rest ≡ first ∷ behind → spelled byte len ≡ item first behind → more ≡ front ++ byte ∷ [] → more ++ meant 0 (drop len behind) ≡ front ++ meant 0 rest
meant_turn rest behind front more first len byte r e m =
    let is : meant 0 rest ≡ byte ∷ meant 0 (drop len behind) = ap (meant 0) r ∙ meant_next first behind ∙ ap (λ (i : Item). i.byte ∷ meant 0 (drop i.len behind)) (sym e) in
    ap (λ (f : List ℕ). f ++ meant 0 (drop len behind)) m ∙ append_assoc front (byte ∷ []) (meant 0 (drop len behind)) ∙ ap (λ (o : List ℕ). front ++ o) (sym is)

pub meant_done : (rest front all : List ℕ) → length rest ≡ 0 → front ++ meant 0 rest ≡ all → front ≡ all
meant_done [] front all e h = sym (append-nil front) ∙ ap (λ (o : List ℕ). front ++ o) (sym meant_end) ∙ h
meant_done (b ∷ rest) front all e h = absurd (omega arith)
