-- Decimal numbers: a digit or more, without a sign, and with any number of leading zeros.
-- Source: POSIX, Base Definitions, 12.1 Utility Argument Syntax, on numbers in operands and option-arguments.
use Rattle.std.specs.Prelude.{ℕ, ◌-◌, ◌^◌, ◌&&◌, nat_le, List, Option, Some, None, if◌then◌else◌}
use Rattle.std.specs.Str.Parse.{digits_value}
use Rattle.std.specs.Option.{option_and_then}
use Rattle.trace_base.specs.FieldLine.{is_decimal}

-- the number that a text spells
abbrev pub number_of : List ℕ → Option ℕ
number_of text = if is_decimal text then Some (digits_value 10 text) else None

-- a number, where it lies in a range
abbrev pub within : ℕ → ℕ → ℕ → Option ℕ
within least most n = if nat_le least n && nat_le n most then Some n else None

-- the number that a text spells, where it lies in a range
abbrev pub number_within : ℕ → ℕ → List ℕ → Option ℕ
number_within least most text = option_and_then (within least most) (number_of text)

-- the number of workers
abbrev pub worker_count : List ℕ → Option ℕ
worker_count text = number_within 1 64 text

-- the seed of a self-test, and its number of events
abbrev pub seed_number : List ℕ → Option ℕ
seed_number text = number_within 0 (2 ^ 64 - 1) text

abbrev pub event_count : List ℕ → Option ℕ
event_count text = number_within 0 1000000 text

-- the size of a piece
abbrev pub piece_count : List ℕ → Option ℕ
piece_count text = number_within 1 1000000000 text
