-- Texts as rows of pieces.
use Rattle.std.specs.Prelude.{ℕ, List}
use Rattle.std.specs.List.{flat_map}

-- the pieces, one after another
abbrev pub text_of : List (List ℕ) → List ℕ
text_of pieces = flat_map (λ piece. piece) pieces
