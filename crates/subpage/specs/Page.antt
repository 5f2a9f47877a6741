-- The items of a whole sub-buffer.
-- Source: trace-cmd.dat.v6(5) and the kernel's `struct buffer_data_page` (timestamp, commit word, data); its missed
-- events stand in bits 31 and 30 of the commit word (ring_buffer.c, RB_MISSED_EVENTS and RB_MISSED_STORED). All other
-- bits above the low 27 are ignored, and bit 30 alone is.
use Rattle.std.specs.Prelude.{◌≡◌, ℕ, ◌/◌, ◌%◌, ◌^◌, ◌≤◌, Bool, ◌&&◌, nat_lt, nat_le, ◌==◌, if◌then◌else◌, IsTrue, List, [], ◌∷◌, ◌++◌, length, take, drop, Option, Some, None, option_map}
use Rattle.trace_base.specs.declared.layout.Layout.{Layout}
use Rattle.trace_base.specs.Number.{num}
use Rattle.subpage.specs.Element.{ElementData, Spelled}
use Rattle.subpage.specs.RunningTime.{in_time}
use Rattle.subpage.specs.ItemData.{ItemData, LossAt, events}
use Rattle.subpage.specs.Reading.{walk}

abbrev pub timestamp : Layout → List ℕ → ℕ
timestamp layout page = num layout.order (take 8 (drop layout.time_at page))

-- the kernel's long that the bytes begin with
abbrev pub long_at_front : Layout → List ℕ → ℕ
long_at_front layout bytes = num layout.order (take layout.commit_size bytes)

abbrev pub commit_word : Layout → List ℕ → ℕ
commit_word layout page = long_at_front layout (drop layout.commit_at page)

abbrev pub data_area : Layout → List ℕ → List ℕ
data_area layout page = drop layout.data_at page

-- the parts of a commit word: the number of committed bytes, whether events were missed, whether their number is stored
abbrev pub committed_size : ℕ → ℕ
committed_size word = word % 2 ^ 27

abbrev pub has_missed : ℕ → Bool
has_missed word = word / 2 ^ 31 % 2 == 1

abbrev pub has_stored : ℕ → Bool
has_stored word = word / 2 ^ 30 % 2 == 1

-- the committed bytes, and those of the data area after them
abbrev pub committed : Layout → List ℕ → List ℕ
committed layout page = take (committed_size (commit_word layout page)) (data_area layout page)

abbrev pub behind_committed : Layout → List ℕ → List ℕ
behind_committed layout page = drop (committed_size (commit_word layout page)) (data_area layout page)

-- the number of missed events, which follows the committed bytes where there is room for it
abbrev pub stored_number : Layout → ℕ → List ℕ → Option ℕ
stored_number layout word behind =
    if has_stored word && nat_le layout.commit_size (length behind) then Some (long_at_front layout behind) else None

abbrev pub losses : Layout → ℕ → ℕ → List ℕ → List ItemData
losses layout word time behind = if has_missed word then LossAt time (stored_number layout word behind) ∷ [] else []

abbrev pub page_losses : Layout → List ℕ → List ItemData
page_losses layout page =
    losses layout (commit_word layout page) (timestamp layout page) (behind_committed layout page)

-- The items of a sub-buffer: a loss, if it tells one, and the events of the elements that spell the committed bytes.
pub record AreItems (layout : Layout) (page : List ℕ) (items : List ItemData) : Type 0 where
  pub inside : committed_size (commit_word layout page) ≤ length (data_area layout page)
  pub elements : List ElementData
  pub spelled : Spelled layout.order elements (committed layout page)
  pub in_64_bits : IsTrue (in_time (timestamp layout page) elements)
  pub items_are : items ≡ page_losses layout page ++ events (timestamp layout page) elements

-- The same, computed: none where the sub-buffer is malformed.
unfoldable pub items : Layout → List ℕ → Option (List ItemData)
items layout page =
    if nat_lt (length (data_area layout page)) (committed_size (commit_word layout page)) then None
    else option_map (λ xs. page_losses layout page ++ xs)
    (walk layout.order (timestamp layout page) (committed layout page))
