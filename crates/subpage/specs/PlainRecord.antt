-- One plain record at the front of bytes, and the place after it.
use Rattle.std.specs.Prelude.{◌≡◌, ℕ, ◌+◌, ◌-◌, ◌^◌, ◌<◌, ◌≤◌, List, ◌++◌, length, take, drop, Option, Some, None}
use Rattle.trace_base.specs.declared.layout.Layout.{Layout}
use Rattle.trace_base.specs.declared.order.Order.{Order}
use Rattle.subpage.specs.declared.mark.Mark.{Mark}
use Rattle.subpage.specs.declared.run.Reached.{Reached}
use Rattle.subpage.specs.Run.{IsPlain, IsRunTo, NonePlain, time_at}

-- its event's time, after a running time, and its payload's length; none where none is there whose time is below 2^64
abbrev pub IsPlainFront : Order → ℕ → List ℕ → Option (ℕ × ℕ) → Type 0
IsPlainFront order time bytes None =
    (delta : ℕ) (payload front back : List ℕ) → bytes ≡ front ++ back → IsPlain order delta payload front
    → 2 ^ 64 ≤ time + delta
IsPlainFront order time bytes (Some event) =
    (delta : ℕ) × (IsPlain order delta (take event.1 (drop 4 bytes)) (take (4 + event.1) bytes)
    × ((event.0 ≡ time + delta) × (event.0 < 2 ^ 64)))

-- the place after the record, where it ends no later in the page than at `end`, and its event is no later than `until`
abbrev pub IsPlainPassed : Layout → List ℕ → Mark → ℕ → ℕ → Option Mark → Type 0
IsPlainPassed layout page mark end until None = NonePlain layout page mark (end - mark.from) until
IsPlainPassed layout page mark end until (Some next) =
    IsRunTo layout page mark next 1 × ((next.from ≤ end) × (time_at next ≤ until))

-- its event's delta and the place after it, at a place of these bytes; none where none is there
abbrev pub IsPlainFrom : Order → List ℕ → ℕ → Option (ℕ × ℕ) → Type 0
IsPlainFrom order bytes from None =
    (delta : ℕ) (payload front back : List ℕ) → drop from bytes ≡ front ++ back → IsPlain order delta payload front → ⊥
IsPlainFrom order bytes from (Some event) =
    (from + 4 ≤ event.1) × ((event.1 ≤ length bytes) × IsPlainFront order 0 (drop from bytes) (Some (event.0, event.1 - (from + 4))))

-- the position to which a run has come whose events are no later than `until`
abbrev pub mark_at : ℕ → ℕ → Reached → Mark
mark_at until to reached = record { loss = None; time = until - reached.left; from = reached.from; to = to }

-- one plain record further in these bytes; none where none is there that is so little later
abbrev pub IsFurther : Order → List ℕ → Reached → Option Reached → Type 0
IsFurther order bytes reached None =
    (delta : ℕ) (payload front back : List ℕ) → drop reached.from bytes ≡ front ++ back → IsPlain order delta payload front
    → reached.left < delta
IsFurther order bytes reached (Some next) =
    (delta : ℕ) × ((reached.left ≡ next.left + delta)
    × IsPlainFrom order bytes reached.from (Some (delta, next.from)))
