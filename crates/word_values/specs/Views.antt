-- What the program's own pairs mean as plain data.
use Rattle.std.specs.Prelude.{ℕ, List}
use Rattle.std.specs.Borrow.{Bor}
use Rattle.word_values.specs.Cut.{Parts, parts}
use Rattle.word_values.specs.CpuList.{Range}

abbrev pub parts_view : Bor (List ℕ) × Bor (List ℕ) → Parts
parts_view p = parts p.0.now p.1.now

abbrev pub range_view : ℕ × ℕ → Range
range_view p = record { first = p.0; last = p.1 }
