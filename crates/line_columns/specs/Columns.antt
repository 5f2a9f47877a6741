-- Columns of a width. Source: trace-cmd-report(1), whose samples give the columns.
use Rattle.std.specs.Prelude.{ℕ, ◌-◌, ◌/◌, ◌%◌, ◌^◌, Bool, if◌then◌else◌, List, ◌++◌, length, replicate, codes}
use Rattle.std.specs.Fmt.{decimal}
use Rattle.trace_base.specs.Times.{micros}

-- what fills a column of this width beside a word; nothing where the word is as wide or wider
abbrev pub fill : ℕ → ℕ → List ℕ → List ℕ
fill byte width word = replicate (width - length word) byte

-- a word at the right of its column, at the left of it, and a number that is filled with zeros
abbrev pub right : ℕ → List ℕ → List ℕ
right width word = fill 32 width word ++ word

abbrev pub left : ℕ → List ℕ → List ℕ
left width word = word ++ fill 32 width word

abbrev pub zeros : ℕ → List ℕ → List ℕ
zeros width digits = fill 48 width digits ++ digits

-- seconds and six digits, or all nine of them
unfoldable pub time_text : Bool → ℕ → List ℕ
time_text full time =
    if full then right 5 (decimal (time / 10 ^ 9)) ++ (codes "." ++ zeros 9 (decimal (time % 10 ^ 9)))
    else right 5 (decimal (micros time / 10 ^ 6)) ++ (codes "." ++ zeros 6 (decimal (micros time % 10 ^ 6)))

-- the same without leading spaces
unfoldable pub bare_time_text : Bool → ℕ → List ℕ
bare_time_text full time =
    if full then decimal (time / 10 ^ 9) ++ (codes "." ++ zeros 9 (decimal (time % 10 ^ 9)))
    else decimal (micros time / 10 ^ 6) ++ (codes "." ++ zeros 6 (decimal (micros time % 10 ^ 6)))

-- nanoseconds as microseconds and three digits
unfoldable pub duration_text : ℕ → List ℕ
duration_text nanos = decimal (nanos / 1000) ++ (codes "." ++ (zeros 3 (decimal (nanos % 1000)) ++ codes " us"))
