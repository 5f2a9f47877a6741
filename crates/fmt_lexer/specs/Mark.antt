-- The marks of a print fmt: of C11 6.4.6 the brackets, and the operators but `++`, `--` and those that assign.
use Rattle.std.specs.Prelude.{ℕ, List, [], ◌∷◌, codes, Contains}

abbrev pub long_marks : List (List ℕ)
long_marks = codes "->" ∷ codes "<<" ∷ codes ">>" ∷ codes "<=" ∷ codes ">=" ∷ codes "==" ∷ codes "!=" ∷ codes "&&" ∷ codes "||" ∷ []

abbrev pub short_marks : List ℕ
short_marks = codes "()[]{},?:+-*/%<>&^|!~"

-- two bytes of the first table, or one of the second
abbrev pub IsMark : List ℕ → Type 0
IsMark [] = ⊥
IsMark (a ∷ []) = Contains short_marks a
IsMark (a ∷ b ∷ []) = Contains long_marks (a ∷ b ∷ [])
IsMark (a ∷ b ∷ c ∷ bytes) = ⊥
