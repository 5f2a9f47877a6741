-- Events that a piece takes at once.
use Rattle.std.specs.Prelude.{◌≡◌, ℕ, ◌-◌, ◌≤◌, true, List, ◌++◌, length}
use Rattle.std.specs.List.{All}
use Rattle.subpage.specs.Arrangement.{Keyed}
use Rattle.split_pieces.specs.declared.gauge.Allowance.{Allowance}
use Rattle.split_pieces.specs.declared.gauge.Gauge.{Gauge}
use Rattle.split_pieces.specs.declared.gauge.Gauge.TheVariants as gauges
use Rattle.split_pieces.specs.Gauging.{piece_by, closes_by}
use Rattle.split_pieces.specs.Pieces.{is_event}

-- A piece takes several items, and goes on by another gauge after them.
pub record TakesItems (gauge now : Gauge) (xs : List Keyed) : Type 0 where
  pub took : (ys : List Keyed) → piece_by gauge (xs ++ ys) ≡ xs ++ piece_by now ys
  pub goes_on : (ys : List Keyed) → closes_by gauge (xs ++ ys) ≡ closes_by now ys

-- the gauge after so many events
abbrev pub after_events : Gauge → ℕ → Gauge
after_events gauges.All n = gauges.All
after_events (gauges.Nanos nanos) n = gauges.Nanos nanos
after_events (gauges.Below limit) n = gauges.Below limit
after_events (gauges.Events events) n = gauges.Events (events - n)

-- an event with a key up to this one
abbrev pub IsEventUpTo : ℕ → Keyed → Type 0
IsEventUpTo until x = (is_event x ≡ true) × (x.key ≤ until)

-- a piece takes events up to this key, as many as that
abbrev pub Allows : Gauge → Allowance → Type 0
Allows gauge allowance =
    (xs : List Keyed) → All (IsEventUpTo allowance.until) xs → length xs ≤ allowance.events
    → TakesItems gauge (after_events gauge (length xs)) xs
