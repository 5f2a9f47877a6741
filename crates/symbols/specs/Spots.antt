-- Spots in order of their numbers.
use Rattle.std.specs.Prelude.{ℕ, ◌<◌, ◌≤◌, Bool, nat_eq, if◌then◌else◌, List, [], ◌∷◌, length, slice_index_or, Option, Some, None}
use Rattle.symbols.specs.declared.names.Spot.{Spot}
use Rattle.symbols.specs.NameMap.{Pair}

-- up to a place none is below one before it
abbrev pub RiseUpTo : List Spot → ℕ → Type 0
RiseUpTo spots count = (i j : ℕ) (d : Spot) → i ≤ j → j < count → (slice_index_or spots i d).key ≤ (slice_index_or spots j d).key

-- no spot from a place on is below the number
abbrev pub NoneBelow : List Spot → ℕ → ℕ → Type 0
NoneBelow spots from least = (k : ℕ) (d : Spot) → from ≤ k → k < length spots → least ≤ (slice_index_or spots k d).key

-- the first so many stand where they belong: none after one of them is below it
pub record AreFirst (spots : List Spot) (count : ℕ) : Type 0 where
  pub within : count ≤ length spots
  pub below : (i j : ℕ) (d : Spot) → i < count → i ≤ j → j < length spots → (slice_index_or spots i d).key ≤ (slice_index_or spots j d).key

abbrev pub is_key : Option ℕ → ℕ → Bool
is_key None key = Bool.false
is_key (Some last) key = nat_eq last key

-- of spots with one number that follow each other only the first
abbrev pub first_spots : Option ℕ → List Spot → List Spot
first_spots last [] = []
first_spots last (s ∷ spots) = if is_key last s.key then first_spots last spots else s ∷ first_spots (Some s.key) spots

-- the same of pairs
abbrev pub firsts : Option ℕ → List Pair → List Pair
firsts last [] = []
firsts last (p ∷ ps) = if is_key last p.0 then firsts last ps else p ∷ firsts (Some p.0) ps
