-- The items that a sub-buffer tells, as plain data.
use Rattle.std.specs.Prelude.{ℕ, List, [], ◌∷◌, map, Option, Some, None}
use Rattle.std.specs.List.{flat_map, zip, last_or}
use Rattle.subpage.specs.Element.{ElementData, Event, End, Discarded, Extend, Stamp}
use Rattle.subpage.specs.RunningTime.{running_times}

-- An event with the bytes of its payload, or a loss with the number of lost events, if that is told. Times are in
-- nanoseconds.
pub data ItemData : Type 0 where
  EventAt : (time : ℕ) (payload : List ℕ) → ItemData
  LossAt : (time : ℕ) (count : Option ℕ) → ItemData

abbrev pub item_time : ItemData → ℕ
item_time (EventAt time payload) = time
item_time (LossAt time count) = time

-- the time of the first item and of the last
abbrev pub first_time : List ItemData → Option ℕ
first_time [] = None
first_time (x ∷ xs) = Some (item_time x)

abbrev pub last_time : List ItemData → Option ℕ
last_time xs = last_or None (map item_time xs)

-- what an element tells that ends at a running time
abbrev pub told_by : ℕ → ElementData → List ItemData
told_by time (Event delta payload) = EventAt time payload ∷ []
told_by time End = []
told_by time (Discarded delta) = []
told_by time (Extend delta) = []
told_by time (Stamp stamp) = []

-- each event with the running time after it
abbrev pub events : ℕ → List ElementData → List ItemData
events time es = flat_map (λ x. told_by x.0 x.1) (zip (running_times time es) es)
