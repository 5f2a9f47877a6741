-- A number of the code as plain data.
use Rattle.std.specs.Prelude.{ℕ, ℤ, pos}
use Rattle.std.specs.Int.{w64, cast_signed}
use Rattle.fmt_literal.specs.declared.ckind.CKind.{CKind}
use Rattle.fmt_literal.specs.declared.ckind.CKind.TheVariants.{I32, U32, I64, U64}
use Rattle.fmt_eval.specs.declared.num.Num.{Num}
use Rattle.fmt_eval.specs.Numbers.{Number, number}

-- 64 bits, read by the sign of their kind
abbrev pub exact_bits : CKind → ℕ → ℤ
exact_bits I32 bits = cast_signed w64 bits
exact_bits U32 bits = pos bits
exact_bits I64 bits = cast_signed w64 bits
exact_bits U64 bits = pos bits

abbrev pub num_view : Num → Number
num_view n = number n.kind (exact_bits n.kind n.bits)
