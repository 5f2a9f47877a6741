-- The data of one processor.
-- Source: trace-cmd.dat.v6(5), the entries after `flyrecord`.
use Rattle.std.specs.Prelude.{ℕ, ◌%◌, ◌^◌}
use Rattle.std.proofs.Math.Nat.{mod-lt}
use Rattle.std.proofs.Common.{arith}
use Rattle.trace_base.specs.declared.part.Part.{Part}
use Rattle.trace_base.specs.Words.{AreWords}

-- the part of these numbers, as a table tells them: modulo 2^64
unfoldable pub part_of : ℕ → ℕ → Part
part_of offset size = record {
  offset = offset % 2 ^ 64;
  size = size % 2 ^ 64;
  words = record { offset_fits = mod-lt offset (omega arith); size_fits = mod-lt size (omega arith) };
}
