-- One of several names.
use Rattle.std.proofs.Common.{◌≡◌, ◌<◌, ℕ, suc, List, ◌∷◌, length, get_or, map, sym, ap, ◌∙◌, arith}
use Rattle.std.specs.Prelude.{Contains}
use Rattle.std.proofs.lemmas.List.{get_or-map, length-map}

-- one of those after the first
pub behind_one : {N : Type 0} (name_of : N → List ℕ) (input : List ℕ) (names : List N) (i : ℕ) (name : N) → i < length names → name ≡ get_or names i name → Contains (input ∷ map name_of names) (name_of name)
behind_one name_of input names i name lt is =
    (suc i, omega (arith, lt, length-map names name_of), get_or-map name_of names i name (name_of name) lt ∙ ap name_of (sym is))
