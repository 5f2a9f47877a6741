-- The events of a generated file: of four processors, and the same for the same seed.
-- Source: this project. The numbers are those of a linear congruential sequence with Knuth's factors (MMIX).
use Rattle.std.specs.Prelude.{ℕ, zero, suc, ◌+◌, ◌*◌, ◌/◌, ◌%◌, ◌^◌, ◌==◌, if◌then◌else◌, List, [], ◌∷◌, ◌++◌, map, filter}
use Rattle.std.specs.List.{range_with_len, sum_by}
use Rattle.trace_base.specs.declared.order.Order.TheVariants.{Little}
use Rattle.trace_base.specs.Number.{bytes_of}
use Rattle.subpage.specs.ItemData.{ItemData, EventAt}
use Rattle.page_write.specs.Record.{zeros}

unfoldable pub next_state : ℕ → ℕ
next_state x = (x * 6364136223846793005 + 1442695040888963407) % 2 ^ 64

-- the state after so many draws
abbrev pub state : ℕ → ℕ → ℕ
state seed zero = seed
state seed (suc n) = next_state (state seed n)

-- the draw of that number, from 0 on: the upper 31 bits of the state that it leads to
unfoldable pub draw : ℕ → ℕ → ℕ
draw seed n = state seed (suc n) / 2 ^ 33

-- An event makes four draws. The first gives its processor.
abbrev pub cpu_at : ℕ → ℕ → ℕ
cpu_at seed i = draw seed (4 * i) % 4

-- the second gives its distance in time from the processor's event before it, in nanoseconds, but each thousandth event
-- is far
abbrev pub step_at : ℕ → ℕ → ℕ
step_at seed i = if i % 1000 == 999 then 268435456 else draw seed (4 * i + 1) % 5000

abbrev pub pid_at : ℕ → ℕ → ℕ
pid_at seed i = draw seed (4 * i + 2) % 100

abbrev pub value_at : ℕ → ℕ → ℕ
value_at seed i = draw seed (4 * i + 3)

-- the common fields, with 900 for the event's type, and then the value and its low three bits
abbrev pub payload_of : ℕ → ℕ → List ℕ
payload_of pid value = bytes_of Little 2 900 ++ (zeros 2 ++ (bytes_of Little 4 pid ++ (bytes_of Little 4 value ++ bytes_of Little 4 (value % 8))))

-- the numbers of a processor's events among the first n
abbrev pub numbers_of : ℕ → ℕ → ℕ → List ℕ
numbers_of seed cpu n = filter (λ i. cpu_at seed i == cpu) (range_with_len 0 n)

-- a processor's time after the first n events: its steps, from one second on
unfoldable pub time_behind : ℕ → ℕ → ℕ → ℕ
time_behind seed cpu n = 1000000000 + sum_by (step_at seed) (numbers_of seed cpu n)

unfoldable pub event_at : ℕ → ℕ → ItemData
event_at seed i = EventAt (time_behind seed (cpu_at seed i) (i + 1)) (payload_of (pid_at seed i) (value_at seed i))

-- the events of a processor, among n
unfoldable pub events_of : ℕ → ℕ → ℕ → List ItemData
events_of seed cpu n = map (event_at seed) (numbers_of seed cpu n)

-- those of each processor
abbrev pub lists_of : ℕ → ℕ → List (List ItemData)
lists_of seed n = events_of seed 0 n ∷ events_of seed 1 n ∷ events_of seed 2 n ∷ events_of seed 3 n ∷ []
