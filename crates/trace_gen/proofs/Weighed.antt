-- The weights of a report's bytes, one after another.
use Rattle.std.proofs.Common.{ℕ, List, drop}
use Rattle.std.specs.List.{sum_by, enumerate_from}
use Rattle.trace_gen.specs.Summary.{weight}

-- what the bytes from a place on weigh
abbrev pub weight_from : ℕ → List ℕ → ℕ
weight_from place report = sum_by weight (enumerate_from place (drop place report))
