-- Times as they are written, beside keys in nanoseconds.
-- Source: trace-cmd-split(1) for start and end as seconds; that a time of up to six decimals is compared as it is printed
-- is a choice of this project.
use Rattle.std.specs.Prelude.{ℕ, Bool, nat_lt, if◌then◌else◌}
use Rattle.trace_base.specs.Times.{micros}
use Rattle.word_values.specs.declared.moment.Moment.{Moment}

-- in microseconds, rounded half up as a report prints it, or in nanoseconds
abbrev pub time_as : Bool → ℕ → ℕ
time_as micro key = if micro then micros key else key

abbrev pub is_before : Moment → ℕ → Bool
is_before moment key = nat_lt (time_as moment.micro key) moment.value

abbrev pub is_past : Moment → ℕ → Bool
is_past moment key = nat_lt moment.value (time_as moment.micro key)
