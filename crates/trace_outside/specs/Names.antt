-- The map from names to bytes that a folder holds.
use Rattle.std.specs.Prelude.{◌≡◌, ◌≢◌, Option, ℕ, List}
use Rattle.std.specs.Option.{option_map}
use Rattle.std.specs.Ordering.{nat_cmp}
use Rattle.std.specs.Cmp.Lexicographic.{slice_cmp}
use Rattle.std.specs.FinMap.{FinMap, get, insert}

-- each name, as the bytes of its text, has the bytes of its file
abbrev pub NamedFiles : Type 0
NamedFiles = FinMap (slice_cmp nat_cmp) (List ℕ)

-- the map with this name set, where the map is told
abbrev pub stored : Option NamedFiles → List ℕ → List ℕ → Option NamedFiles
stored told name bytes = option_map (λ files. insert files name bytes) told

-- what the map has under this name, where the map is told
abbrev pub asked : Option NamedFiles → List ℕ → Option (Option (List ℕ))
asked told name = option_map (λ files. get files name) told

-- two maps answer alike for every name but this one
abbrev pub SameBut : List ℕ → NamedFiles → NamedFiles → Type 0
SameBut name files after = (other : List ℕ) → other ≢ name → get after other ≡ get files other
