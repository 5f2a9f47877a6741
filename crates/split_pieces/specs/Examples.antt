-- Rules, and items of one processor, for examples.
use Rattle.std.specs.Prelude.{ℕ, Bool, true, false, List, [], ◌∷◌, Option, Some, None}
use Rattle.subpage.specs.ItemData.{EventAt, LossAt}
use Rattle.subpage.specs.Arrangement.{Keyed}
use Rattle.word_values.specs.declared.moment.Moment.{Moment}
use Rattle.word_values.specs.declared.piece.PieceUnit.{PieceUnit}
use Rattle.split_pieces.specs.declared.rules.Rules.{Rules}

abbrev pub at : ℕ → Keyed
at time = record { key = time; cpu = 0; item = EventAt time [] }

abbrev pub lost : ℕ → Keyed
lost time = record { key = time; cpu = 0; item = LossAt time None }

abbrev pub five : List Keyed
five = at 10 ∷ at 20 ∷ at 30 ∷ at 40 ∷ at 50 ∷ []

abbrev pub micros : ℕ → Option Moment
micros value = Some (record { micro = true; value = value })

abbrev pub nanos : ℕ → Option Moment
nanos value = Some (record { micro = false; value = value })

abbrev pub by : PieceUnit → Bool → Option Moment → Option Moment → Rules
by unit repeat start stop = record { unit = unit; repeat = repeat; per_cpu = false; start = start; stop = stop }
