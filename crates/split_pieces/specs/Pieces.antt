-- What a split makes of lists of items, each with its key.
-- Source: trace-cmd-split(1). Where a start, an end or a unit falls between items is a choice of this project.
use Rattle.std.specs.Prelude.{ℕ, suc, zero, ◌+◌, ◌<◌, Bool, true, false, ◌&&◌, ◌||◌, not, nat_lt, nat_le, if◌then◌else◌, List, [], ◌∷◌, ◌++◌, length, drop, map, filter, Option, Some, None}
use Rattle.std.specs.List.{flat_map, list_any, prefix_len, take_while}
use Rattle.subpage.specs.ItemData.{ItemData, EventAt, LossAt}
use Rattle.subpage.specs.Arrangement.{Keyed}
use Rattle.word_values.specs.declared.moment.Moment.{Moment}
use Rattle.word_values.specs.declared.piece.PieceUnit.{PieceUnit}
use Rattle.word_values.specs.declared.piece.PieceUnit.TheVariants.{All, Nanos, Events}
use Rattle.split_pieces.specs.declared.rules.Rules.{Rules}
use Rattle.split_pieces.specs.Moments.{is_before, is_past}

abbrev pub is_some_left : List Keyed → Bool
is_some_left [] = false
is_some_left (x ∷ xs) = true

abbrev pub event_item : ItemData → Bool
event_item (EventAt time payload) = true
event_item (LossAt time count) = false

abbrev pub is_event : Keyed → Bool
is_event x = event_item x.item

-- START AND END

-- without the items with a key before the start
abbrev pub from_start : Option Moment → List Keyed → List Keyed
from_start None xs = xs
from_start (Some moment) xs = filter (λ x. not (is_before moment x.key)) xs

-- the same where keys do not fall
abbrev pub behind_start : Option Moment → List Keyed → List Keyed
behind_start None xs = xs
behind_start (Some moment) xs = drop (prefix_len (λ x. is_before moment x.key) xs) xs

-- without the first item with a key past the end, and those after it
abbrev pub up_to_end : Option Moment → List Keyed → List Keyed
up_to_end None xs = xs
up_to_end (Some moment) xs = take_while (λ x. not (is_past moment x.key)) xs

-- there is such an item
abbrev pub has_end : Option Moment → List Keyed → Bool
has_end None xs = false
has_end (Some moment) xs = list_any (λ x. is_past moment x.key) xs

-- what start and end leave
abbrev pub left_in : Rules → List Keyed → List Keyed
left_in rules xs = up_to_end rules.stop (from_start rules.start xs)

-- ONE FILE

-- the items up to and including the n-th event
abbrev pub up_to_event : ℕ → List Keyed → List Keyed
up_to_event zero xs = []
up_to_event (suc n) [] = []
up_to_event (suc n) (x ∷ xs) = x ∷ up_to_event (if is_event x then n else suc n) xs

-- what a file takes of a list: the longest front that its unit allows
abbrev pub piece : PieceUnit → List Keyed → List Keyed
piece All xs = xs
piece (Nanos n) [] = []
piece (Nanos n) (x ∷ xs) = take_while (λ y. nat_lt y.key (x.key + n)) (x ∷ xs)
piece (Events n) xs = up_to_event n xs

-- what is left after it
abbrev pub rest : PieceUnit → List Keyed → List Keyed
rest unit xs = drop (length (piece unit xs)) xs

-- a unit's number is at least 1
abbrev pub IsUnit : PieceUnit → Type 0
IsUnit All = Unit {0}
IsUnit (Nanos n) = 0 < n
IsUnit (Events n) = 0 < n

-- ALL FILES

-- pieces are taken until nothing is left
pub data Pieces (unit : PieceUnit) : List Keyed → List (List Keyed) → Type 0 where
  nothing : Pieces unit [] []
  takes : (x : Keyed) (xs : List Keyed) (pieces : List (List Keyed)) → Pieces unit (rest unit (x ∷ xs)) pieces
      → Pieces unit (x ∷ xs) (piece unit (x ∷ xs) ∷ pieces)

-- the first n of them, computed
abbrev pub pieces_within : PieceUnit → ℕ → List Keyed → List (List Keyed)
pieces_within unit zero xs = []
pieces_within unit (suc n) [] = []
pieces_within unit (suc n) (x ∷ xs) = piece unit (x ∷ xs) ∷ pieces_within unit n (rest unit (x ∷ xs))

abbrev pub all_pieces : PieceUnit → List Keyed → List (List Keyed)
all_pieces unit xs = pieces_within unit (length xs) xs

-- Several lists are cut side by side: a file takes the next piece of each.
abbrev pub joined_lists : List (List Keyed) → List Keyed
joined_lists lists = flat_map (λ xs. xs) lists

abbrev pub next_file : PieceUnit → List (List Keyed) → List Keyed
next_file unit lists = flat_map (piece unit) lists

abbrev pub behind_file : PieceUnit → List (List Keyed) → List (List Keyed)
behind_file unit lists = map (rest unit) lists

-- the piece of number k of a list, counted from 0, and the first n of them, joined
abbrev pub piece_at : PieceUnit → ℕ → List Keyed → List Keyed
piece_at unit zero xs = piece unit xs
piece_at unit (suc k) xs = piece_at unit k (rest unit xs)

abbrev pub first_pieces : PieceUnit → ℕ → List Keyed → List Keyed
first_pieces unit zero xs = []
first_pieces unit (suc n) xs = piece unit xs ++ first_pieces unit n (rest unit xs)

-- further files, while a list has an item left: the first n of them
abbrev pub files_when : List Keyed → List (List Keyed) → List (List Keyed)
files_when [] more = []
files_when (x ∷ xs) more = more

abbrev pub files_within : PieceUnit → ℕ → List (List Keyed) → List (List Keyed)
files_within unit zero lists = []
files_within unit (suc n) lists = files_when (joined_lists lists) (next_file unit lists ∷ files_within unit n (behind_file unit lists))

abbrev pub files_left : PieceUnit → List (List Keyed) → List (List Keyed)
files_left unit lists = files_within unit (length (joined_lists lists)) lists

-- The files of lists. There is always a first.
abbrev pub files : Rules → List (List Keyed) → List (List Keyed)
files rules lists =
    next_file rules.unit (map (left_in rules) lists)
    ∷ (if rules.repeat then files_left rules.unit (behind_file rules.unit (map (left_in rules) lists)) else [])

-- CLOSED

-- n events are there
abbrev pub has_events : ℕ → List Keyed → Bool
has_events n xs = nat_le n (length (filter is_event xs))

-- whether a unit closes a list without repetition: a time unit leaves an item, or its events were taken
abbrev pub unit_closes : PieceUnit → List Keyed → Bool
unit_closes All xs = false
unit_closes (Nanos n) xs = is_some_left (rest (Nanos n) xs)
unit_closes (Events n) xs = has_events n xs

-- whether the end, or the unit of the one file, leaves out what may follow a list
abbrev pub is_closed : Rules → List Keyed → Bool
is_closed rules xs =
    has_end rules.stop (from_start rules.start xs)
    || (not rules.repeat && unit_closes rules.unit (left_in rules xs))
