-- What a lane may still read, in bytes, by the length of its file alone.
use Rattle.std.specs.Prelude.{◌≡◌, ◌≤◌, ℕ, ◌+◌, ◌-◌, ◌*◌, ◌^◌, Bool, ◌&&◌, nat_le, if◌then◌else◌, sum_by}
use Rattle.std.specs.List.{range_with_len}
use Rattle.trace_base.specs.declared.layout.Layout.{Layout}
use Rattle.trace_base.specs.declared.part.Part.{Part}
use Rattle.subpage.specs.Processor.{page_count, page_end}
use Rattle.page_pool.specs.declared.lane.Lane.{Lane}
use Rattle.page_pool.specs.declared.cursor.LaneState.{LaneState}
use Rattle.page_pool.specs.declared.cursor.LaneState.TheVariants.{Fresh, Held, Ended, Malformed}

-- whether sub-buffer k of a part stands wholly in the part and in a file of this length
abbrev pub is_there_in : Layout → ℕ → Part → ℕ → Bool
is_there_in layout len part k =
    nat_le ((k + 1) * layout.page) part.size
    && nat_le (page_end layout part k) len
    && nat_le (page_end layout part k) (2 ^ 64)

-- the bytes that there are of it
abbrev pub size_there : Layout → ℕ → Part → ℕ → ℕ
size_there layout len part k = if is_there_in layout len part k then layout.page else 0

-- those of all the part's sub-buffers from k on
unfoldable pub size_from : Layout → ℕ → Part → ℕ → ℕ
size_from layout len part k = sum_by (size_there layout len part) (range_with_len k (page_count layout part - k))

-- the first sub-buffer that was not read: a malformed one was
abbrev pub first_unread : LaneState → ℕ → ℕ
first_unread Fresh next = next
first_unread Held next = next
first_unread Ended next = next
first_unread Malformed next = next + 1

-- the bytes of the sub-buffers that a lane has not read
abbrev pub unread : ℕ → Lane → ℕ
unread len lane = size_from lane.layout len lane.part (first_unread lane.cursor.state lane.cursor.next)

-- those of the one that it may be reading
abbrev pub reading_in : LaneState → ℕ → ℕ
reading_in Fresh size = size
reading_in Held size = 0
reading_in Ended size = 0
reading_in Malformed size = 0

abbrev pub reading : ℕ → Lane → ℕ
reading len lane = reading_in lane.cursor.state (size_there lane.layout len lane.part lane.cursor.next)

-- The lane asked for its next sub-buffer: that was read, or may have been.
pub record IsAsked (len : ℕ) (before now : Lane) : Type 0 where
  pub less : unread len now ≤ unread len before
  pub asked : unread len before + reading len now
      ≡ unread len now + size_there before.layout len before.part before.cursor.next
