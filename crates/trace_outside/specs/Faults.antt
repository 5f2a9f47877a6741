-- Which calls of the objects in memory are to fail, by the byte that a read asks for or by a call's number, and how little a
-- short object does at a call.
use Rattle.std.specs.Prelude.{ℕ, ◌-◌, min, max, Bool, false, ◌&&◌, ◌==◌, nat_lt, nat_le, Option, Some, None, if◌then◌else◌}
use Rattle.trace_outside.specs.declared.memory.faults.MemFault.{MemFault}
use Rattle.trace_outside.specs.declared.memory.faults.MemFault.TheVariants.{ReadAt, Open, Create, Write, Finish}
use Rattle.trace_outside.specs.declared.memory.faults.Settings.{Settings}
use Rattle.trace_outside.specs.declared.memory.faults.Calls.{Calls}

-- nothing is set
abbrev pub no_settings : Settings
no_settings = record { byte = None; opening = None; creation = None; write = None; finish = None; limit = None }

-- no calls fail but those of this fault; the limit stays
abbrev pub with_fault : MemFault → Settings → Settings
with_fault (ReadAt place) set = record no_settings { byte = Some place; limit = set.limit }
with_fault (Open call) set = record no_settings { opening = Some call; limit = set.limit }
with_fault (Create call) set = record no_settings { creation = Some call; limit = set.limit }
with_fault (Write call) set = record no_settings { write = Some call; limit = set.limit }
with_fault (Finish call) set = record no_settings { finish = Some call; limit = set.limit }

-- no calls yet
abbrev pub no_calls : Calls
no_calls = record { opens = 0; creates = 0; writes = 0; finishes = 0 }

-- the call of this number is the one that fails
abbrev pub is_failing : Option ℕ → ℕ → Bool
is_failing None number = false
is_failing (Some call) number = number == call

-- calls fail from this number on, or from an earlier one
abbrev pub is_from : Option ℕ → ℕ → Bool
is_from None number = false
is_from (Some call) number = nat_le call number

-- the number that the failing call has after the first so many
abbrev pub due_after : Option ℕ → ℕ → Option ℕ
due_after None before = None
due_after (Some call) before = if nat_lt before call then Some (call - before) else None

-- a read of so many bytes from a place on asks for the byte at which reads fail; a byte past the file's end is asked for by none
abbrev pub asks_for : Option ℕ → ℕ → ℕ → ℕ → Bool
asks_for None size at count = false
asks_for (Some byte) size at count = nat_le at byte && nat_lt (byte - at) count && nat_lt byte size

-- so many of a call's bytes, or all of them where there is no limit; where there are some, at least one
abbrev pub at_limit : Option ℕ → ℕ → ℕ
at_limit None count = count
at_limit (Some most) count = min count (max most 1)
