-- A moment on a command line: seconds of one to eleven digits, and after a point one to nine decimals, where there is one.
-- Source: trace-cmd-split(1), `OPTIONS`: the start and the end time in seconds; trace-cmd-report(1) prints six decimals, or
-- nine under `-t`.
use Rattle.std.specs.Prelude.{ℕ, ◌+◌, ◌-◌, ◌*◌, ◌^◌, ◌==◌, nat_le, Bool, true, false, List, length, Option, None, option_map, if◌then◌else◌}
use Rattle.std.specs.Option.{option_and_then, option_map_or}
use Rattle.word_values.specs.declared.moment.Moment.{Moment}
use Rattle.word_values.specs.Cut.{cut}
use Rattle.word_values.specs.Number.{number_within}

abbrev pub is_point : ℕ → Bool
is_point c = c == 46

abbrev pub whole_seconds : List ℕ → Option ℕ
whole_seconds text = if nat_le (length text) 11 then number_within 0 99999999999 text else None

abbrev pub decimal_part : List ℕ → Option ℕ
decimal_part text = if nat_le (length text) 9 then number_within 0 999999999 text else None

-- seconds with a part of so many places: up to six places are microseconds, and more are nanoseconds
abbrev pub moment_with : ℕ → ℕ → ℕ → Moment
moment_with seconds places part =
    if nat_le places 6
    then record { micro = true; value = seconds * 1000000 + part * 10 ^ (6 - places) }
    else record { micro = false; value = seconds * 1000000000 + part * 10 ^ (9 - places) }

abbrev pub decimal_moment : List ℕ → List ℕ → Option Moment
decimal_moment whole decimals =
    option_and_then (λ seconds. option_map (moment_with seconds (length decimals)) (decimal_part decimals)) (whole_seconds whole)

-- the moment that a text spells
abbrev pub moment_of : List ℕ → Option Moment
moment_of text =
    option_map_or
    (λ p. decimal_moment p.before p.after)
    (cut is_point text)
    (option_map (λ seconds. moment_with seconds 0 0) (whole_seconds text))
