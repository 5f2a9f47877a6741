-- The bytes of events that follow one another in a sub-buffer.
-- Source: the kernel's ring_buffer.h (`enum ring_buffer_type`): a length in the first word where it has room for it, else in the
-- word after it; a step of time of more than 27 bits as a time extend. That what is written is this spelling, of those that
-- are read, is a choice of this project.
use Rattle.std.specs.Prelude.{ℕ, ◌+◌, ◌-◌, ◌*◌, ◌/◌, ◌%◌, ◌^◌, Bool, ◌&&◌, nat_le, nat_lt, ◌==◌, if◌then◌else◌, List, [], ◌∷◌, ◌++◌, length, replicate}
use Rattle.trace_base.specs.declared.order.Order.{Order}
use Rattle.trace_base.specs.declared.order.Order.TheVariants.{Little, Big}
use Rattle.trace_base.specs.Number.{bytes_of}
use Rattle.subpage.specs.Element.{round4}
use Rattle.subpage.specs.ItemData.{ItemData, EventAt, LossAt}

abbrev pub zeros : ℕ → List ℕ
zeros n = replicate n 0

-- the first word of an element
abbrev pub pair_word : Order → ℕ → ℕ → ℕ
pair_word Little kind delta = kind + 32 * delta
pair_word Big kind delta = kind * 2 ^ 27 + delta

unfoldable pub first_word : Order → ℕ → ℕ → List ℕ
first_word order kind delta = bytes_of order 4 (pair_word order kind delta)

-- the first word tells a length of 4 to 112 that is whole words
abbrev pub is_short : ℕ → Bool
is_short n = nat_le 4 n && nat_le n 112 && n % 4 == 0

unfoldable pub event_text : Order → ℕ → List ℕ → List ℕ
event_text order delta payload =
    if is_short (length payload) then first_word order (length payload / 4) delta ++ payload
    else first_word order 0 delta ++ (bytes_of order 4 (length payload + 4) ++ (payload ++ zeros (round4 (length payload) - length payload)))

unfoldable pub extend_text : Order → ℕ → List ℕ
extend_text order delta = first_word order 30 (delta % 2 ^ 27) ++ bytes_of order 4 (delta / 2 ^ 27)

-- an event that is so much later than what stands before it
unfoldable pub record_text : Order → ℕ → List ℕ → List ℕ
record_text order step payload =
    if nat_lt step (2 ^ 27) then event_text order step payload else extend_text order step ++ event_text order 0 payload

-- the events of items, from a running time on; a loss has no record
unfoldable pub records_text : Order → ℕ → List ItemData → List ℕ
records_text order before [] = []
records_text order before (EventAt time payload ∷ xs) = record_text order (time - before) payload ++ records_text order time xs
records_text order before (LossAt time count ∷ xs) = records_text order time xs
