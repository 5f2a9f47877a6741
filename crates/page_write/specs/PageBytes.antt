-- The sub-buffer of a row of items.
-- Source: the kernel's `struct buffer_data_page`, and RB_MISSED_EVENTS and RB_MISSED_STORED of ring_buffer.c.
use Rattle.std.specs.Prelude.{◌≡◌, ℕ, ◌+◌, ◌-◌, ◌^◌, ◌<◌, Bool, true, false, ◌&&◌, nat_le, nat_lt, List, [], ◌∷◌, ◌++◌, length, take, drop, Some, None}
use Rattle.trace_base.specs.declared.layout.Layout.{Layout}
use Rattle.trace_base.specs.Number.{bytes_of}
use Rattle.subpage.specs.ItemData.{ItemData, EventAt, LossAt, item_time}
use Rattle.page_write.specs.Record.{zeros, records_text}

-- the bytes with a piece put over those from a place on
unfoldable pub put_at : ℕ → List ℕ → List ℕ → List ℕ
put_at at piece bytes = take at bytes ++ (piece ++ drop (at + length piece) bytes)

-- it was put, and this is the place after it
pub record IsPut (at : ℕ) (piece old new : List ℕ) (behind : ℕ) : Type 0 where
  pub put : new ≡ put_at at piece old
  pub end : behind ≡ at + length piece

-- the time of the first item
abbrev pub start_of : List ItemData → ℕ
start_of [] = 0
start_of (x ∷ xs) = item_time x

-- the number of lost events of a loss at the front, as a kernel long
abbrev pub number_text : Layout → List ItemData → List ℕ
number_text layout [] = []
number_text layout (EventAt time payload ∷ xs) = []
number_text layout (LossAt time None ∷ xs) = []
number_text layout (LossAt time (Some count) ∷ xs) = bytes_of layout.order layout.commit_size count

-- the bits of the commit word that tell a loss at the front, and whether its number is stored
abbrev pub loss_bits : List ItemData → ℕ
loss_bits [] = 0
loss_bits (EventAt time payload ∷ xs) = 0
loss_bits (LossAt time None ∷ xs) = 2 ^ 31
loss_bits (LossAt time (Some count) ∷ xs) = 2 ^ 31 + 2 ^ 30

-- what the data area begins with: the records, and after them the number of a loss
abbrev pub records : Layout → List ItemData → List ℕ
records layout items = records_text layout.order (start_of items) items

abbrev pub data_text : Layout → List ItemData → List ℕ
data_text layout items = records layout items ++ number_text layout items

abbrev pub area_len : Layout → ℕ
area_len layout = layout.page - layout.data_at

-- what stands before the data: zero bytes, and in them the timestamp and the commit word
unfoldable pub front_text : Layout → List ItemData → List ℕ
front_text layout items =
    put_at layout.commit_at (bytes_of layout.order layout.commit_size (length (records layout items) + loss_bits items))
    (put_at layout.time_at (bytes_of layout.order 8 (start_of items)) (zeros layout.data_at))

unfoldable pub page_of : Layout → List ItemData → List ℕ
page_of layout items =
    front_text layout items ++ (data_text layout items ++ zeros (area_len layout - length (data_text layout items)))

-- only events, whose times do not fall and whose steps have at most 59 bits
abbrev pub follow : ℕ → List ItemData → Bool
follow before [] = true
follow before (EventAt time payload ∷ xs) = nat_le before time && nat_lt (time - before) (2 ^ 59) && follow time xs
follow before (LossAt time count ∷ xs) = false

-- One sub-buffer can tell these items: a loss stands only first, the events follow one another, and all of it has room.
abbrev pub one_page : Layout → List ItemData → Bool
one_page layout [] = true
one_page layout (x ∷ xs) = follow (item_time x) xs && nat_le (length (data_text layout (x ∷ xs))) (area_len layout)

-- the number of a loss is a kernel long
abbrev pub NumberFits : Layout → ItemData → Type 0
NumberFits layout (EventAt time payload) = Unit {0}
NumberFits layout (LossAt time None) = Unit {0}
NumberFits layout (LossAt time (Some count)) = count < 256 ^ layout.commit_size

-- an item that an empty sub-buffer can tell
pub record IsPackable (layout : Layout) (x : ItemData) : Type 0 where
  pub time : item_time x < 2 ^ 64
  pub number : NumberFits layout x
  pub alone : one_page layout (x ∷ []) ≡ true
