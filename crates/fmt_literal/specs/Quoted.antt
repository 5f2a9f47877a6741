-- Letters and texts by their spelling, quotation marks included.
use Rattle.std.specs.Prelude.{ℕ, ◌-◌, List, [], ◌∷◌, length, take, drop, Option, Some, None}
use Rattle.fmt_literal.specs.Escape.{StandsFor, meant}

-- what stands between the marks
abbrev pub inside : List ℕ → List ℕ
inside bytes = take (length bytes - 2) (drop 1 bytes)

-- the text's bytes
abbrev pub IsTextOf : List ℕ → List ℕ → Type 0
IsTextOf bytes text = StandsFor (inside bytes) text

-- the letter's one byte
abbrev pub IsLetterOf : List ℕ → ℕ → Type 0
IsLetterOf bytes letter = StandsFor (inside bytes) (letter ∷ [])

unfoldable pub text_of : List ℕ → List ℕ
text_of bytes = meant 0 (inside bytes)

abbrev pub only : List ℕ → Option ℕ
only [] = None
only (b ∷ []) = Some b
only (b ∷ c ∷ bytes) = None

unfoldable pub letter_of : List ℕ → Option ℕ
letter_of bytes = only (meant 0 (inside bytes))
