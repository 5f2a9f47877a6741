-- Pieces of text with a text between them, and the digits of hexadecimal pieces.
use Rattle.std.specs.Prelude.{ℕ, Bool, false, if◌then◌else◌, List, [], ◌∷◌, ◌++◌, codes}
use Rattle.std.specs.List.{flat_map}
use Rattle.std.specs.Fmt.{digits}

abbrev pub join : List ℕ → List (List ℕ) → List ℕ
join between [] = []
join between (piece ∷ pieces) = piece ++ flat_map (λ p. between ++ p) pieces

-- pieces that follow others, or that are the first
abbrev pub join_behind : Bool → List ℕ → List (List ℕ) → List ℕ
join_behind some between pieces = if some then flat_map (λ p. between ++ p) pieces else join between pieces

-- `0x` and the lower digits of a number
abbrev pub hexadecimal : ℕ → List ℕ
hexadecimal n = codes "0x" ++ digits 16 false n
