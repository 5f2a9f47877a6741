-- Runs of plain records: the events of a sub-buffer whose records can be copied as they stand.
-- Source: the kernel's ring_buffer.h (`enum ring_buffer_type`): an event whose type_len is 1 to 28 has that many words of
-- payload right after its first word.
use Rattle.std.specs.Prelude.{◌≡◌, ℕ, ◌+◌, ◌-◌, ◌*◌, ◌^◌, ◌<◌, ◌≤◌, List, [], ◌∷◌, ◌++◌, length, take, drop, Option, Some, None}
use Rattle.trace_base.specs.declared.layout.Layout.{Layout}
use Rattle.trace_base.specs.declared.order.Order.{Order}
use Rattle.subpage.specs.declared.mark.Mark.{Mark}
use Rattle.subpage.specs.declared.run.RunLimits.{RunLimits}
use Rattle.subpage.specs.Element.{IsFirstWord}
use Rattle.subpage.specs.ItemData.{ItemData, EventAt}
use Rattle.subpage.specs.Marks.{IsMark, bytes_from, items_from, mark_of, past_loss}

-- The bytes spell an event whose first word tells the length of its payload.
pub record IsPlain (order : Order) (delta : ℕ) (payload bytes : List ℕ) : Type 0 where
  pub first : List ℕ
  pub kind : ℕ
  pub word : IsFirstWord order first kind delta
  pub least : 1 ≤ kind
  pub most : kind ≤ 28
  pub long : length payload ≡ 4 * kind
  pub whole : bytes ≡ first ++ payload

-- The bytes are the plain records of these events, one right after another: each record's delta is the distance of its
-- event from the one before it, and that of the first from the running time at the start.
pub data IsRun (order : Order) : ℕ → List ItemData → List ℕ → ℕ → Type 0 where
  nothing : (time : ℕ) → IsRun order time [] [] time
  begins_with : (time delta end : ℕ) (payload front back : List ℕ) (xs : List ItemData)
      → IsPlain order delta payload front → time + delta < 2 ^ 64 → IsRun order (time + delta) xs back end
      → IsRun order time (EventAt (time + delta) payload ∷ xs) (front ++ back) end

-- the bytes between two places
abbrev pub run_bytes : List ℕ → Mark → Mark → List ℕ
run_bytes page mark next = take (next.from - mark.from) (drop mark.from page)

-- the second place stands in the page, no earlier than the first
abbrev pub IsBetween : List ℕ → Mark → Mark → Type 0
IsBetween page mark next = (mark.from ≤ next.from) × (next.from ≤ length page)

-- the running time at a place: after an event it is the event's
abbrev pub time_at : Mark → ℕ
time_at mark = mark.time

-- The items between two places are so many events, and the bytes between them are their plain records.
pub record IsRunTo (layout : Layout) (page : List ℕ) (mark next : Mark) (count : ℕ) : Type 0 where
  pub items : List ItemData
  pub long : length items ≡ count
  pub run : IsRun layout.order (time_at mark) items (run_bytes page mark next) (time_at next)
  pub left : items_from layout page mark ≡ items ++ items_from layout page next
  pub there : IsMark layout page next
  pub event : mark_of (past_loss next) ≡ next
  pub forward : mark.from ≤ next.from

-- no plain record stands at a place that ends within so many bytes and whose event is no later than so
abbrev pub NonePlain : Layout → List ℕ → Mark → ℕ → ℕ → Type 0
NonePlain layout page mark bytes until =
    (delta : ℕ) (payload front back : List ℕ) → bytes_from page mark ≡ front ++ back → IsPlain layout.order delta payload front
    → length front ≤ bytes → time_at mark + delta ≤ until → ⊥

-- The longest run from a place on within the limits.
pub record IsLongestRun (layout : Layout) (page : List ℕ) (mark : Mark) (limits : RunLimits) (next : Mark) (count : ℕ) : Type 0 where
  pub run : IsRunTo layout page mark next count
  pub some : 0 < count
  pub few : count ≤ limits.events
  pub fits : length (run_bytes page mark next) ≤ limits.bytes
  pub in_time : time_at next ≤ limits.until
  pub longest : count < limits.events → NonePlain layout page next (limits.bytes - length (run_bytes page mark next)) limits.until

-- it, or none where a loss is told at the place, no event is wanted, or no plain record stands there within the limits
abbrev pub IsRunFound : Layout → List ℕ → Mark → RunLimits → Option (Mark × ℕ) → Type 0
IsRunFound layout page mark limits None = mark.loss ≡ None → 0 < limits.events → NonePlain layout page mark limits.bytes limits.until
IsRunFound layout page mark limits (Some run) = IsLongestRun layout page mark limits run.0 run.1
