-- The letter that is computed is the one that is spelled.
use Rattle.std.proofs.Common.{◌≡◌, ◌↔◌, ℕ, List, [], ◌∷◌, Option, Some, None, sym, ap, subst, ◌∙◌}
use Rattle.std.specs.Option.{IfSome, IfNone}
use Rattle.fmt_literal.specs.Escape.{StandsFor, meant}
use Rattle.fmt_literal.specs.Quoted.{inside, only, text_of, letter_of, IsTextOf, IsLetterOf}
use Rattle.fmt_literal.proofs.Escapes.{meant_complete, meant_sound}

one_only : (bytes : List ℕ) (out : List ℕ) (b : ℕ) → StandsFor bytes out → only out ≡ Some b → StandsFor bytes (b ∷ [])
one_only bytes [] b h e = absurd cc
one_only bytes (c ∷ []) b h e = let same : c ≡ b = cc in subst (λ (x : ℕ). StandsFor bytes (x ∷ [])) same h
one_only bytes (c ∷ d ∷ out) b h e = absurd cc

pub letter_sound : (bytes : List ℕ) (b : ℕ) → letter_of bytes ≡ Some b → IsLetterOf bytes b
unfolding letter_of
letter_sound bytes b e = one_only (inside bytes) (meant 0 (inside bytes)) b (meant_sound (inside bytes)) e

pub letter_complete : (bytes : List ℕ) (b : ℕ) → IsLetterOf bytes b → letter_of bytes ≡ Some b
unfolding letter_of
letter_complete bytes b h = ap only (meant_complete h)

pub letter_computed : (bytes : List ℕ) (b : ℕ) → (letter_of bytes ≡ Some b) ↔ IsLetterOf bytes b
letter_computed bytes b = (letter_sound bytes b, letter_complete bytes b)

pub text_computed : (bytes text : List ℕ) → (text_of bytes ≡ text) ↔ IsTextOf bytes text
unfolding text_of
text_computed bytes text = (λ e. subst (StandsFor (inside bytes)) e (meant_sound (inside bytes)), λ h. meant_complete h)

pub found_letter : (bytes : List ℕ) (r : Option ℕ) → r ≡ letter_of bytes → IfSome r (λ b. IsLetterOf bytes b)
found_letter bytes None e = tt
found_letter bytes (Some b) e = letter_sound bytes b (sym e)

pub none_letter : (bytes : List ℕ) (r : Option ℕ) → r ≡ letter_of bytes → IfNone r ((b : ℕ) → IsLetterOf bytes b → ⊥)
none_letter bytes None e = λ b h. absurd (let f : None ≡ Some b = e ∙ letter_complete bytes b h in cc)
none_letter bytes (Some b) e = tt
