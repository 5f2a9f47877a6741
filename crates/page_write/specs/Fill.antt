-- The packing rule in numbers alone.
use Rattle.std.specs.Prelude.{◌≡◌, ℕ, ◌+◌, ◌-◌, ◌^◌, ◌≤◌, true, ◌&&◌, nat_le, nat_lt, if◌then◌else◌, List, [], ◌∷◌, length, Option, Some, None, IfSome}
use Rattle.trace_base.specs.declared.layout.Layout.{Layout}
use Rattle.subpage.specs.Element.{round4}
use Rattle.subpage.specs.ItemData.{ItemData, EventAt, LossAt, item_time}
use Rattle.page_write.specs.declared.fill.Fill.{Fill}
use Rattle.page_write.specs.declared.added.Added.{Added}
use Rattle.page_write.specs.declared.added.Added.TheVariants as code
use Rattle.page_write.specs.Record.{is_short}
use Rattle.page_write.specs.PageBytes.{area_len, data_text, one_page}

-- how many bytes an event has whose payload has n
unfoldable pub event_len : ℕ → ℕ
event_len n = if is_short n then 4 + n else 8 + round4 n

-- the same of an event that is so much later than what stands before it
unfoldable pub record_len : ℕ → ℕ → ℕ
record_len step n = if nat_lt step (2 ^ 27) then event_len n else 8 + event_len n

-- what a loss keeps for its number
abbrev pub number_len : Layout → Option ℕ → ℕ
number_len layout None = 0
number_len layout (Some count) = layout.commit_size

-- a sub-buffer that an item opens
unfoldable pub opened : Layout → ItemData → Fill
opened layout (EventAt time payload) = record { time = time; used = event_len (length payload) }
opened layout (LossAt time count) = record { time = time; used = number_len layout count }

-- an open sub-buffer with a further item
unfoldable pub gone_on : Layout → Fill → ItemData → Option Fill
gone_on layout fill (LossAt time count) = None
gone_on layout fill (EventAt time payload) =
    let used = fill.used + record_len (time - fill.time) (length payload) in
    if nat_le fill.time time && nat_lt (time - fill.time) (2 ^ 59) && nat_le used (area_len layout)
    then Some (record { time = time; used = used }) else None

-- none where the rule opens a further sub-buffer
unfoldable pub filled : Layout → Option Fill → ItemData → Option Fill
filled layout None x = Some (opened layout x)
filled layout (Some fill) x = gone_on layout fill x

-- the answer that this is, and the numbers after it
abbrev pub Fills : Option Fill → Option Fill → Option Fill → Added → Type 0
Fills (Some fill) old new code.Added = new ≡ Some fill
Fills (Some fill) old new code.Full = ⊥
Fills None old new code.Added = ⊥
Fills None old new code.Full = new ≡ old

-- the time of the last item
abbrev pub end_from : ℕ → List ItemData → ℕ
end_from time [] = time
end_from time (x ∷ xs) = end_from (item_time x) xs

-- the numbers of the items that an open sub-buffer holds
abbrev pub fill_of : Layout → List ItemData → Option Fill
fill_of layout [] = None
fill_of layout (x ∷ xs) = Some (record { time = end_from (item_time x) xs; used = length (data_text layout (x ∷ xs)) })

-- these items, which one sub-buffer can tell, have these numbers
pub record IsFill (layout : Layout) (fill : Option Fill) (held : List ItemData) : Type 0 where
  pub one : one_page layout held ≡ true
  pub fill_is : fill ≡ fill_of layout held

abbrev pub IsSmall : Option Fill → Type 0
IsSmall fill = IfSome fill (λ f. f.used ≤ 262144)
