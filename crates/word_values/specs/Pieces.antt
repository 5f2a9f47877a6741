-- How a recording is cut into pieces.
-- Source: trace-cmd-split(1), `OPTIONS`.
use Rattle.std.specs.Prelude.{ℕ, ◌*◌, List, [], ◌∷◌}
use Rattle.word_values.specs.declared.piece.PieceUnit.{PieceUnit}
use Rattle.word_values.specs.declared.piece.PieceUnit.TheVariants as unit
use Rattle.word_values.specs.declared.piece.PieceOption.{PieceOption}
use Rattle.word_values.specs.declared.piece.PieceOption.TheVariants.{Seconds, Millis, Micros, Events}

-- all options that give a unit
abbrev pub piece_options : List PieceOption
piece_options = Seconds ∷ Millis ∷ Micros ∷ Events ∷ []

-- pieces of so many seconds, milliseconds, microseconds or events
abbrev pub piece : PieceOption → ℕ → PieceUnit
piece Seconds count = unit.Nanos (count * 1000000000)
piece Millis count = unit.Nanos (count * 1000000)
piece Micros count = unit.Nanos (count * 1000)
piece Events count = unit.Events count
