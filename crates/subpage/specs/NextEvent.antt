-- What the next event is, told by the events of all bytes.
use Rattle.std.specs.Prelude.{◌≡◌, ℕ, ◌+◌, ◌-◌, ◌<◌, ◌≤◌, take, drop, List, [], ◌∷◌, length, Option, Some, None, option_map}
use Rattle.trace_base.specs.declared.order.Order.{Order}
use Rattle.subpage.specs.declared.next.Next.{Next}
use Rattle.subpage.specs.declared.next.Next.TheVariants as code
use Rattle.subpage.specs.ItemData.{EventAt}
use Rattle.subpage.specs.Element.{round4}
use Rattle.subpage.specs.Reading.{walk}

abbrev pub IsNext : Order → ℕ → List ℕ → Next → Type 0
IsNext order time bytes code.Malformed = walk order time bytes ≡ None
IsNext order time bytes code.Done = walk order time bytes ≡ Some []
IsNext order time bytes (code.Event after payload rest) =
    (walk order time bytes ≡ option_map (λ xs. EventAt after payload.now ∷ xs) (walk order after rest.now))
    × (length rest.now < length bytes)

-- the bytes after the event are the last ones
abbrev pub IsSuffix : List ℕ → Next → Type 0
IsSuffix bytes code.Malformed = Unit {0}
IsSuffix bytes code.Done = Unit {0}
IsSuffix bytes (code.Event after payload rest) = rest.now ≡ drop (length bytes - length rest.now) bytes

-- the payload, filled up to whole words, stands right before the bytes after the event
abbrev pub HasPayload : List ℕ → Next → Type 0
HasPayload bytes code.Malformed = Unit {0}
HasPayload bytes code.Done = Unit {0}
HasPayload bytes (code.Event after payload rest) =
    (length rest.now + round4 (length payload.now) ≤ length bytes)
    × (payload.now ≡ take (length payload.now) (drop (length bytes - (length rest.now + round4 (length payload.now))) bytes))

-- an event at the front of bytes, with its payload right after its first word
abbrev pub IsShort : Order → ℕ → List ℕ → Option (ℕ × ℕ) → Type 0
IsShort order time bytes None = Unit {0}
IsShort order time bytes (Some event) =
    (walk order time bytes ≡ option_map (λ xs. EventAt event.0 (take event.1 (drop 4 bytes)) ∷ xs) (walk order event.0 (drop (4 + event.1) bytes)))
    × (4 + event.1 ≤ length bytes)

-- A word in these bytes claims an event after a running time, with its payload right after the word: where the bytes go as far they
-- tell it, and where they do not they tell nothing.
pub record IsClaimed (order : Order) (time : ℕ) (bytes : List ℕ) (from after behind : ℕ) : Type 0 where
  pub inside : from + 4 ≤ length bytes
  pub further : from + 4 < behind
  pub told : behind ≤ length bytes
      → walk order time (drop from bytes) ≡ option_map (λ xs. EventAt after (take (behind - (from + 4)) (drop (from + 4) bytes)) ∷ xs) (walk order after (drop behind bytes))
  pub cut : length bytes < behind → walk order time (drop from bytes) ≡ None
