-- A position among the items of a sub-buffer, and the items from it on.
use Rattle.std.specs.Prelude.{◌≡◌, ℕ, ◌+◌, ◌≤◌, List, [], ◌∷◌, length, take, drop, Option, Some, None, IsSome}
use Rattle.trace_base.specs.declared.layout.Layout.{Layout}
use Rattle.subpage.specs.declared.loss.Loss.{Loss}
use Rattle.subpage.specs.declared.mark.Mark.{Mark}
use Rattle.subpage.specs.declared.mark.ItemEnd.{ItemEnd}
use Rattle.subpage.specs.declared.mark.Span.{Span}
use Rattle.subpage.specs.declared.item.Item.{Item}
use Rattle.subpage.specs.ItemData.{ItemData, EventAt, LossAt}
use Rattle.subpage.specs.ItemView.{item_view}
use Rattle.subpage.specs.Reading.{walk}
use Rattle.subpage.specs.Left.{left}

abbrev pub bytes_from : List ℕ → Mark → List ℕ
bytes_from page mark = drop mark.from (take mark.to page)

abbrev pub items_from : Layout → List ℕ → Mark → List ItemData
items_from layout page mark = left mark.loss layout.order mark.time (bytes_from page mark)

-- A position in this page: the bytes from it on can be read.
pub record IsMark (layout : Layout) (page : List ℕ) (mark : Mark) : Type 0 where
  pub readable : IsSome (walk layout.order mark.time (bytes_from page mark))
  pub forward : mark.from ≤ mark.to
  pub within : mark.to ≤ length page

-- The first item from a position on, with the position after that item.
abbrev pub IsFirst : Layout → List ℕ → Mark → Option (Item × Mark) → Type 0
IsFirst layout page mark None = items_from layout page mark ≡ []
IsFirst layout page mark (Some first) =
    (items_from layout page mark ≡ item_view first.0 ∷ items_from layout page first.1) × IsMark layout page first.1

-- bytes of the page
abbrev pub IsInside : List ℕ → Span → Type 0
IsInside page span = span.from + span.len ≤ length page

abbrev pub span_bytes : List ℕ → Span → List ℕ
span_bytes page span = take span.len (drop span.from page)

-- the loss that is to be told at a position, or else the event of this time and payload
abbrev pub item_by : Option Loss → ℕ → List ℕ → ItemData
item_by None time payload = EventAt time payload
item_by (Some loss) time payload = LossAt loss.time loss.count

-- The item between a position and the one after it: an event's time is the running time after it.
abbrev pub item_between : List ℕ → Mark → ItemEnd → Span → ItemData
item_between page mark behind payload = item_by mark.loss behind.time (span_bytes page payload)

-- the position after the loss that is told at a position
abbrev pub past_loss : Mark → ItemEnd
past_loss mark = record { time = mark.time; from = mark.from; to = mark.to }

-- the position after an item, among all: no loss is told there
abbrev pub mark_of : ItemEnd → Mark
mark_of end = record { loss = None; time = end.time; from = end.from; to = end.to }

-- The position after the first item, and its payload.
abbrev pub IsPassed : Layout → List ℕ → Mark → Option (ItemEnd × Span) → Type 0
IsPassed layout page mark None = items_from layout page mark ≡ []
IsPassed layout page mark (Some passed) =
    (items_from layout page mark ≡ item_between page mark passed.0 passed.1 ∷ items_from layout page (mark_of passed.0))
    × (IsMark layout page (mark_of passed.0) × IsInside page passed.1)
