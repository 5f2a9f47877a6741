-- A tail as plain data.
use Rattle.std.specs.Prelude.{length, take, min, ℕ}
use Rattle.trace_base.specs.declared.tail.Tail.{Tail}
use Rattle.trace_base.specs.Kept.{Kept, most, Held, held_of}

abbrev pub kept : Tail → Kept
kept tail = record { room = length tail.into.now; bytes = take tail.total tail.into.now; total = min tail.total most; last = tail.last; watches = tail.watches; nul = tail.nul }

-- the name under which the slice is lent
abbrev pub lent : Tail → ℕ
lent tail = tail.into.ghost_name

abbrev pub held : Tail → Held
held tail = held_of (kept tail)
