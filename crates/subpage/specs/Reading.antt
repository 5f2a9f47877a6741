-- The elements that bytes spell, computed from the front.
use Rattle.std.specs.Prelude.{ℕ, zero, suc, ◌+◌, ◌-◌, ◌*◌, ◌^◌, nat_lt, ◌==◌, if◌then◌else◌, List, [], ◌∷◌, length, take, drop, Option, Some, None, option_map}
use Rattle.trace_base.specs.declared.order.Order.{Order}
use Rattle.trace_base.specs.OptionSteps.{◌>>=◌}
use Rattle.trace_base.specs.Number.{num}
use Rattle.subpage.specs.Element.{ElementData, Event, End, Discarded, Extend, Stamp, type_len, time_delta, round4}
use Rattle.subpage.specs.RunningTime.{in_time}
use Rattle.subpage.specs.ItemData.{ItemData, events}

-- Each of these gives what it reads, and the bytes after it.
unfoldable pub word_at : Order → List ℕ → Option (ℕ × List ℕ)
word_at order bytes = if nat_lt (length bytes) 4 then None else Some (num order (take 4 bytes), drop 4 bytes)

-- a length, and the bytes that it counts, filled up to whole words
unfoldable pub counted_at : Order → List ℕ → Option (ℕ × List ℕ × List ℕ)
counted_at order bytes = do
  n ← word_at order bytes
  if nat_lt n.0 4 then None
      else (if nat_lt (length n.1) (round4 n.0 - 4) then None
      else Some (n.0, take (round4 n.0 - 4) n.1, drop (round4 n.0 - 4) n.1))

unfoldable pub short_event_at : ℕ → ℕ → List ℕ → Option (ElementData × List ℕ)
short_event_at kind delta bytes =
    if nat_lt (length bytes) (4 * kind) then None
    else Some (Event delta (take (4 * kind) bytes), drop (4 * kind) bytes)

unfoldable pub long_event_at : Order → ℕ → List ℕ → Option (ElementData × List ℕ)
long_event_at order delta bytes = do
  counted ← counted_at order bytes
  Some (Event delta (take (counted.0 - 4) counted.1), counted.2)

unfoldable pub discarded_at : Order → ℕ → List ℕ → Option (ElementData × List ℕ)
discarded_at order delta bytes = do
  counted ← counted_at order bytes
  Some (Discarded delta, counted.2)

unfoldable pub extend_at : Order → ℕ → List ℕ → Option (ElementData × List ℕ)
extend_at order low bytes = do
  high ← word_at order bytes
  Some (Extend (low + high.0 * 2 ^ 27), high.1)

unfoldable pub stamp_at : Order → ℕ → List ℕ → Option (ElementData × List ℕ)
stamp_at order low bytes = do
  high ← word_at order bytes
  if nat_lt (low + high.0 * 2 ^ 27) (2 ^ 59) then Some (Stamp (low + high.0 * 2 ^ 27), high.1) else None

-- the element that a first word of this pair begins
unfoldable pub rest_at : Order → ℕ → ℕ → List ℕ → Option (ElementData × List ℕ)
rest_at order kind delta bytes =
    if kind == 0 then long_event_at order delta bytes
    else (if nat_lt kind 29 then short_event_at kind delta bytes
    else (if kind == 29 then (if delta == 0 then Some (End, []) else discarded_at order delta bytes)
    else (if kind == 30 then extend_at order delta bytes
    else stamp_at order delta bytes)))

unfoldable pub element_at : Order → List ℕ → Option (ElementData × List ℕ)
element_at order bytes = do
  first ← word_at order bytes
  rest_at order (type_len order first.0) (time_delta order first.0) first.1

-- at most n elements
unfoldable pub elements_in : ℕ → Order → List ℕ → Option (List ElementData)
elements_in n order [] = Some []
elements_in zero order (b ∷ bytes) = None
elements_in (suc n) order (b ∷ bytes) = do
  first ← element_at order (b ∷ bytes)
  option_map (λ es. first.0 ∷ es) (elements_in n order first.1)

-- all of them, since each takes four bytes or more
unfoldable pub elements : Order → List ℕ → Option (List ElementData)
elements order bytes = elements_in (length bytes) order bytes

-- the events that bytes tell from a running time on
unfoldable pub walk : Order → ℕ → List ℕ → Option (List ItemData)
walk order time bytes = do
  es ← elements order bytes
  if in_time time es then Some (events time es) else None
