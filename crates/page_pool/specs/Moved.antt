-- Lanes with a dirty bit each, which tells whether the lane may have moved since it was last looked at.
use Rattle.std.specs.Prelude.{◌≡◌, ℕ, ◌<◌, ◌≤◌, Bool, true, false, List, length, slice_index_or, Option, None, Some}
use Rattle.page_pool.specs.declared.lane.Lane.{Lane}

-- it holds of each clean lane
abbrev pub AllUnmoved : (Lane → Type 0) → List Bool → List Lane → Type 0
AllUnmoved P moved lanes = (i : ℕ) (d : Lane) → i < length lanes → slice_index_or moved i true ≡ false → P (slice_index_or lanes i d)

-- each clean lane is as it was
abbrev pub KeepsUnmoved : List Bool → List Lane → List Lane → Type 0
KeepsUnmoved moved before now =
    (i : ℕ) (d : Lane) → i < length before → slice_index_or moved i true ≡ false → slice_index_or now i d ≡ slice_index_or before i d

-- no dirty bit is set at these places
abbrev pub NoneMarked : List Bool → ℕ → ℕ → Type 0
NoneMarked moved from to = (i : ℕ) → from ≤ i → i < to → slice_index_or moved i true ≡ false

-- a place is the first from one on whose dirty bit is set
pub record IsFirstMark (moved : List Bool) (from at : ℕ) : Type 0 where
  pub behind : from ≤ at
  pub inside : at < length moved
  pub marked : slice_index_or moved at false ≡ true
  pub none : NoneMarked moved from at

abbrev pub IsNextMark : List Bool → ℕ → Option ℕ → Type 0
IsNextMark moved from None = NoneMarked moved from (length moved)
IsNextMark moved from (Some at) = IsFirstMark moved from at
