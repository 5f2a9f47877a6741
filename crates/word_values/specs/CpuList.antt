-- The LIST of `--cpu`: numbers from 0 to 1,023, or two of them around `-` with the first at most the second, separated by
-- `,` or `:`.
-- Source: trace-cmd-report(1), `--cpu`.
use Rattle.std.specs.Prelude.{ℕ, Bool, ◌==◌, ◌&&◌, ◌||◌, nat_le, List, [], ◌∷◌, ◌+◌, map, Option, Some, None, option_map, if◌then◌else◌}
use Rattle.std.specs.List.{list_any, slice_split, range_with_len}
use Rattle.std.specs.Option.{option_and_then, option_map_or}
use Rattle.word_values.specs.Cut.{cut}
use Rattle.word_values.specs.Number.{number_within}

pub record Range : Type 0 where
  pub first : ℕ
  pub last : ℕ

abbrev pub is_separator : ℕ → Bool
is_separator c = (c == 44) || (c == 58)

abbrev pub is_dash : ℕ → Bool
is_dash c = c == 45

-- the number of a processor
abbrev pub cpu_number : List ℕ → Option ℕ
cpu_number text = number_within 0 1023 text

abbrev pub range_between : ℕ → ℕ → Option Range
range_between first last =
    if nat_le first last then Some (record { first = first; last = last }) else None

-- the range from the one text to the other
abbrev pub range_from : List ℕ → List ℕ → Option Range
range_from first last =
    option_and_then (λ a. option_and_then (λ b. range_between a b) (cpu_number last)) (cpu_number first)

-- the range that a piece between two separators spells: around its dash, or of a number alone
abbrev pub range_of : List ℕ → Option Range
range_of piece =
    option_map_or (λ p. range_from p.before p.after) (cut is_dash piece) (option_map (λ n. record { first = n; last = n }) (cpu_number piece))

-- each piece's range, where each has one
abbrev pub ranges_of : List (List ℕ) → Option (List Range)
ranges_of [] = Some []
ranges_of (piece ∷ pieces) =
    option_and_then (λ range. option_map (λ ranges. range ∷ ranges) (ranges_of pieces)) (range_of piece)

abbrev pub is_in : ℕ → Range → Bool
is_in cpu range = nat_le range.first cpu && nat_le cpu range.last

-- for each number below a limit whether it lies in one of the ranges
abbrev pub members_below : ℕ → List Range → List Bool
members_below limit ranges = map (λ cpu. list_any (is_in cpu) ranges) (range_with_len 0 limit)

-- the set of processors that a list names
unfoldable pub cpu_set : List ℕ → Option (List Bool)
cpu_set text = option_map (members_below 1024) (ranges_of (slice_split is_separator text))

-- each member, or whether its number passes, the first member having the number k
abbrev pub marked : ℕ → (ℕ → Bool) → List Bool → List Bool
marked k passes [] = []
marked k passes (member ∷ members) = (member || passes k) ∷ marked (k + 1) passes members

-- a set with the numbers of a range besides
abbrev pub with_range : List Bool → Range → List Bool
with_range members range = marked 0 (λ cpu. is_in cpu range) members
