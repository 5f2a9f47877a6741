-- What a gauge still takes of a list.
use Rattle.std.specs.Prelude.{◌≡◌, ◌+◌, Bool, true, false, nat_lt, List, [], ◌∷◌, length, drop}
use Rattle.std.specs.List.{take_while}
use Rattle.subpage.specs.Arrangement.{Keyed}
use Rattle.split_pieces.specs.declared.gauge.Gauge.{Gauge}
use Rattle.split_pieces.specs.declared.gauge.Gauge.TheVariants.{All, Nanos, Below, Events}
use Rattle.split_pieces.specs.Pieces.{up_to_event, is_some_left, has_events}

abbrev pub piece_by : Gauge → List Keyed → List Keyed
piece_by All xs = xs
piece_by (Nanos n) [] = []
piece_by (Nanos n) (x ∷ xs) = take_while (λ y. nat_lt y.key (x.key + n)) (x ∷ xs)
piece_by (Below limit) xs = take_while (λ y. nat_lt y.key limit) xs
piece_by (Events n) xs = up_to_event n xs

-- and what it leaves
abbrev pub rest_by : Gauge → List Keyed → List Keyed
rest_by gauge xs = drop (length (piece_by gauge xs)) xs

-- whether a piece that ends in this list closes it
abbrev pub closes_by : Gauge → List Keyed → Bool
closes_by All xs = false
closes_by (Nanos n) xs = is_some_left (rest_by (Nanos n) xs)
closes_by (Below limit) xs = is_some_left (rest_by (Below limit) xs)
closes_by (Events n) xs = has_events n xs

-- A piece takes an item, and goes on by another gauge after it.
pub record TakesItem (gauge now : Gauge) (x : Keyed) : Type 0 where
  pub took : (xs : List Keyed) → piece_by gauge (x ∷ xs) ≡ x ∷ piece_by now xs
  pub goes_on : (xs : List Keyed) → closes_by gauge (x ∷ xs) ≡ closes_by now xs

-- It ends before the item, which closes the list.
pub record EndsBefore (gauge : Gauge) (x : Keyed) : Type 0 where
  pub ended : (xs : List Keyed) → piece_by gauge (x ∷ xs) ≡ []
  pub closed : (xs : List Keyed) → closes_by gauge (x ∷ xs) ≡ true
