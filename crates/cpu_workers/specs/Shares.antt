-- Lanes that are shared out to workers.
use Rattle.std.specs.Prelude.{ℕ, ◌+◌, ◌*◌, ◌/◌, ◌%◌, min, max, Bool, not, ◌&&◌, nat_le, if◌then◌else◌, List, count_by, is_some}
use Rattle.std.specs.List.{zip}
use Rattle.page_pool.specs.Limits.{most_of}
use Rattle.page_pool.specs.declared.lane.Lane.{Lane}
use Rattle.event_cursor.specs.Keys.{first_of}
use Rattle.event_cursor.specs.Standing.{keyed_held}

-- whether a lane may form a line: it holds an item, and its region takes lines
abbrev pub may_form : Lane → Bool
may_form lane = not (nat_le (most_of lane.region.limit) lane.region.used) && is_some (first_of (keyed_held lane))

-- whether a lane is busy: it is dirty, and may form a line
abbrev pub is_busy : Lane × Bool → Bool
is_busy marked = marked.1 && may_form marked.0

-- how many lanes are busy, by their dirty bits
abbrev pub busy_lanes : List Lane → List Bool → ℕ
busy_lanes lanes moved = count_by is_busy (zip lanes moved)

-- How many of `count` lanes the first few of several workers get: each as many as any other, and the first ones one more
-- until none is left over.
abbrev pub share_of : ℕ → ℕ → ℕ → ℕ
share_of count workers first = count / workers * first + min (count % workers) first

-- a lane's sub-buffer counts so many bytes at most
abbrev pub most_counted : ℕ
most_counted = 32768

-- whether so many busy lanes hold, in sub-buffers of this length, as many bytes as are worth several threads
abbrev pub are_worth : ℕ → ℕ → ℕ → Bool
are_worth shared_from page busy = nat_le shared_from (busy * min page most_counted)

-- On how many threads lanes are formatted of which so many are busy: as many as are asked for, where what these hold is
-- worth them, but no more than are busy; and one in any case.
abbrev pub threads_for : ℕ → ℕ → ℕ → ℕ → ℕ
threads_for asked shared_from page busy = if are_worth shared_from page busy then max 1 (min busy asked) else 1
