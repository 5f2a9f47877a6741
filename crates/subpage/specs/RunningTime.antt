-- The running time over the elements of a sub-buffer.
-- Source: the kernel's ring_buffer.h (time extends and absolute stamps of 59 bits) and events.rst. That a stamp takes
-- over the upper five bits of the running time is a choice of this project: a stamp has no room for them.
use Rattle.std.specs.Prelude.{ℕ, ◌+◌, ◌-◌, ◌%◌, ◌^◌, Bool, nat_lt, nat_le, ◌==◌, if◌then◌else◌, List, [], ◌∷◌, Option, Some, None}
use Rattle.std.specs.List.{list_all}
use Rattle.subpage.specs.Element.{ElementData, Event, End, Discarded, Extend, Stamp}

-- the part of a time that a stamp has no bits for
abbrev pub upper_bits : ℕ → ℕ
upper_bits time = time - time % 2 ^ 59

-- the running time after a stamp
abbrev pub stamped : ℕ → ℕ → ℕ
stamped time stamp =
    if upper_bits time == 0 then stamp
    else (if nat_le time (upper_bits time + stamp) then upper_bits time + stamp
    else upper_bits time + stamp + 2 ^ 59)

-- the running time after an element
abbrev pub time_after : ℕ → ElementData → ℕ
time_after time (Event delta payload) = time + delta
time_after time End = time
time_after time (Discarded delta) = time + delta
time_after time (Extend delta) = time + delta
time_after time (Stamp stamp) = stamped time stamp

-- the running times after each element
abbrev pub running_times : ℕ → List ElementData → List ℕ
running_times time [] = []
running_times time (e ∷ es) = time_after time e ∷ running_times (time_after time e) es

-- a time that is below 2^64
abbrev pub in_64_bits : ℕ → Option ℕ
in_64_bits time = if nat_lt time (2 ^ 64) then Some time else None

-- none of the running times reaches 2^64
abbrev pub in_time : ℕ → List ElementData → Bool
in_time time es = list_all (λ t. nat_lt t (2 ^ 64)) (running_times time es)
