-- What a split may still read of lanes, in bytes, by the length of their file alone.
use Rattle.std.specs.Prelude.{ℕ, ◌+◌, ◌-◌, ◌≤◌, List, MatchResult, Result, sum_by}
use Rattle.trace_outside.specs.Causes.{raised}
use Rattle.page_pool.specs.declared.lane.Lane.{Lane}
use Rattle.page_pool.specs.declared.cursor.LaneState.{LaneState}
use Rattle.page_pool.specs.declared.cursor.LaneState.TheVariants.{Fresh, Held, Ended, Malformed}
use Rattle.event_cursor.specs.Unread.{size_from}
use Rattle.time_merge.specs.Reads.{all_unread}
use Rattle.split_passes.specs.ListSeen.{ListSeen}
use Rattle.split_passes.specs.Reads.{all_packing}

-- the first sub-buffer that a second pass may still go back to
abbrev pub first_again : LaneState → ℕ → ℕ
first_again Fresh next = next - 1
first_again Held next = next - 1
first_again Ended next = next
first_again Malformed next = next

-- Second passes read each sub-buffer from there on, and once more that in which a piece ends and the next one begins.
abbrev pub again : ℕ → Lane → ℕ
again len lane =
    size_from lane.layout len lane.part (first_again lane.cursor.state lane.cursor.next)
    + size_from lane.layout len lane.part lane.cursor.next

abbrev pub all_again : ℕ → List Lane → ℕ
all_again len lanes = sum_by (again len) lanes

-- both passes of all further files
abbrev pub to_read : ℕ → List Lane → ℕ
to_read len lanes = all_unread len lanes + all_again len lanes

-- what packing the pieces of lists reads
abbrev pub lists_packing : ℕ → List ListSeen → ℕ
lists_packing len lists = sum_by (λ list. all_packing len list.all list.fronts list.tallies) lists

-- of what might be read so much is left, and no more than the rest of it was read
pub record Spent (most left before now : ℕ) : Type 0 where
  pub less : left ≤ most
  pub reads : now ≤ raised before (most - left)

-- a call spends so, or fails and reads no more than might be read
abbrev pub Spends : {T E : Type 0} → ℕ → ℕ → ℕ → ℕ → Result T E → Type 0
Spends most left before now result = MatchResult result (λ _. Spent most left before now) (λ _. now ≤ raised before most)
