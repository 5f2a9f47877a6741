-- Pieces that bytes begin with, each beside the bytes after it.
use Rattle.std.specs.Prelude.{ℕ, nat_lt, if◌then◌else◌, List, length, take, drop, Option, Some, None}
use Rattle.trace_base.specs.declared.order.Order.{Order}
use Rattle.trace_base.specs.Number.{num}
use Rattle.trace_base.specs.OptionSteps.{◌>>=◌}

-- so many bytes
unfoldable pub leading_piece : ℕ → List ℕ → Option (List ℕ × List ℕ)
leading_piece size bytes = if nat_lt (length bytes) size then None else Some (take size bytes, drop size bytes)

-- a number of so many bytes
unfoldable pub leading_number : Order → ℕ → List ℕ → Option (ℕ × List ℕ)
leading_number order width bytes = do
  piece ← leading_piece width bytes
  Some (num order piece.0, piece.1)
