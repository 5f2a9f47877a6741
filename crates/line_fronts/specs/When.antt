-- Where and when an event was, as its line shows it after the task. Source: trace-cmd-report(1), for the columns and the options.
use Rattle.std.specs.Prelude.{◌≡◌, ◌<◌, ℕ, false, if◌then◌else◌, List, ◌++◌, codes}
use Rattle.std.specs.Fmt.{decimal}
use Rattle.line_columns.specs.Columns.{right, zeros, time_text}
use Rattle.line_columns.specs.Marks.{latency_marks}
use Rattle.line_columns.specs.declared.widths.TheConstants.{USUAL_TIMES}
use Rattle.trace_base.specs.declared.common.Common.{Common}
use Rattle.line_fronts.specs.declared.show.Show.{Show}
use Rattle.line_fronts.specs.declared.usual.TheConstants.{USUAL_CPUS}

-- the processor, and with the latency columns what the event says of its context
unfoldable pub place_text : Show → ℕ → ℕ → ℕ → List ℕ
place_text show cpu flags preempt_count =
    if show.line.latency then codes " " ++ (right 3 (decimal cpu) ++ (latency_marks flags preempt_count ++ codes " "))
    else codes " [" ++ (zeros 3 (decimal cpu) ++ codes "] ")

-- where and when it was
abbrev pub when_of : Show → ℕ → ℕ → Common → List ℕ
when_of show cpu time common = place_text show cpu common.flags common.preempt ++ (time_text show.line.full time ++ codes ": ")

-- the same where the columns have their usual widths: without the latency columns and the last three digits of the time, of a
-- processor of up to three digits, and before the seconds have six
abbrev pub usual_when : ℕ → ℕ → List ℕ
usual_when cpu time = (codes " [" ++ (zeros 3 (decimal cpu) ++ codes "] ")) ++ (time_text false time ++ codes ": ")

abbrev pub IsUsual : Show → ℕ → ℕ → Type 0
IsUsual show cpu time = (show.line.latency ≡ false) × (show.line.full ≡ false) × (cpu < USUAL_CPUS) × (time < USUAL_TIMES)
