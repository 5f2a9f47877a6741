-- Times as they are printed.
use Rattle.std.specs.Prelude.{ℕ, ◌+◌, ◌/◌}

-- nanoseconds as microseconds, rounded half up
abbrev pub micros : ℕ → ℕ
micros nanos = (nanos + 500) / 1000
