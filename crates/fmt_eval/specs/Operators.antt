-- The operators of C on numbers (C11 6.5.3.3 and 6.5.5 to 6.5.14) and its casts (6.3.1.2 and 6.3.1.3).
--
-- What C leaves undefined is defined here: everything wraps, a quotient and a remainder by 0 are 0, and a shift by a
-- negative count or by the width and more gives 0.
use Rattle.std.specs.Prelude.{ℕ, ◌^◌, ℤ, pos, negsuc, neg_ℤ, ◌+ℤ◌, ◌-ℤ◌, ◌*ℤ◌, Bool, true, false, not, ◌==◌, ◌&&◌, ◌||◌, nat_lt, if◌then◌else◌, Option, Some, None, int_lt, int_le, int_div, int_rem, bit_and, bit_or, bit_xor}
use Rattle.std.specs.Ordering.{int_eq}
use Rattle.std.specs.Int.{w8, w16, int_rem_euclid, int_div_euclid, int_wrap}
use Rattle.fmt_literal.specs.declared.ckind.CKind.{CKind}
use Rattle.fmt_literal.specs.declared.ckind.CKind.TheVariants.{I32, U32, I64, U64}
use Rattle.fmt_literal.specs.Numeral.{width_of}
use Rattle.fmt_literal.specs.declared.cast_to.CastTo.{CastTo}
use Rattle.fmt_literal.specs.declared.cast_to.CastTo.TheVariants.{Bits, Truth, Same}
use Rattle.c_operators.specs.declared.binary.BinaryOp.{BinaryOp}
use Rattle.c_operators.specs.declared.binary.BinaryOp.TheVariants as op
use Rattle.fmt_expr.specs.declared.expr.PrefixOp.{PrefixOp}
use Rattle.fmt_expr.specs.declared.expr.PrefixOp.TheVariants as prefix
use Rattle.fmt_eval.specs.Numbers.{Number, number, reduced, pattern, truth, is_zero, is_true}

-- the kind to which two operands are converted (C11 6.3.1.8)
abbrev pub common : CKind → CKind → CKind
common U64 b = U64
common I64 U64 = U64
common I64 I32 = I64
common I64 U32 = I64
common I64 I64 = I64
common U32 I32 = U32
common U32 b = b
common I32 b = b

-- an operator on two numbers that were converted to one kind
abbrev pub joined : (CKind → ℤ → ℤ → Number) → Number → Number → Number
joined f a b = let kind = common a.kind b.kind in f kind (reduced kind a.exact) (reduced kind b.exact)

abbrev pub arithmetic : (ℤ → ℤ → ℤ) → Number → Number → Number
arithmetic f a b = joined (λ kind x y. number kind (reduced kind (f x y))) a b

abbrev pub bitwise : (ℕ → ℕ → ℕ) → Number → Number → Number
bitwise f a b = arithmetic (λ x y. pos (f (pattern x) (pattern y))) a b

abbrev pub compared : (ℤ → ℤ → Bool) → Number → Number → Number
compared f a b = joined (λ kind x y. truth (f x y)) a b

-- a number by its sign and its magnitude
abbrev pub signed : Bool → ℕ → ℤ
signed true magnitude = neg_ℤ (pos magnitude)
signed false magnitude = pos magnitude

-- both are rounded toward 0
abbrev pub quotient : ℤ → ℤ → ℤ
quotient a b = if is_zero b then pos 0 else int_div a b

abbrev pub remainder : ℤ → ℤ → ℤ
remainder a b = if is_zero b then pos 0 else int_rem a b

-- the count of a shift, if it is not negative and below the width
abbrev pub shift_count : CKind → ℤ → Option ℕ
shift_count kind (pos n) = if nat_lt n (width_of kind) then Some n else None
shift_count kind (negsuc n) = None

-- A shift is a product or a quotient by a power of two; it has the kind of its left operand. The quotient is rounded
-- down, so that the right shift of a signed number is arithmetic.
abbrev pub scaled : (ℤ → ℤ → ℤ) → ℤ → Option ℕ → ℤ
scaled f a None = pos 0
scaled f a (Some n) = f a (pos (2 ^ n))

abbrev pub shifted_left : Number → ℤ → Number
shifted_left a count = number a.kind (reduced a.kind (scaled (λ x y. x *ℤ y) a.exact (shift_count a.kind count)))

abbrev pub shifted_right : Number → ℤ → Number
shifted_right a count = number a.kind (reduced a.kind (scaled int_div_euclid a.exact (shift_count a.kind count)))

abbrev pub applied : BinaryOp → Number → Number → Number
applied op.LogicOr a b = truth (is_true a || is_true b)
applied op.LogicAnd a b = truth (is_true a && is_true b)
applied op.BitOr a b = bitwise bit_or a b
applied op.BitXor a b = bitwise bit_xor a b
applied op.BitAnd a b = bitwise bit_and a b
applied op.Equal a b = compared int_eq a b
applied op.NotEqual a b = compared (λ x y. not (int_eq x y)) a b
applied op.Less a b = compared int_lt a b
applied op.LessEqual a b = compared int_le a b
applied op.Greater a b = compared (λ x y. int_lt y x) a b
applied op.GreaterEqual a b = compared (λ x y. int_le y x) a b
applied op.ShiftLeft a b = shifted_left a b.exact
applied op.ShiftRight a b = shifted_right a b.exact
applied op.Plus a b = arithmetic (λ x y. x +ℤ y) a b
applied op.Minus a b = arithmetic (λ x y. x -ℤ y) a b
applied op.Times a b = arithmetic (λ x y. x *ℤ y) a b
applied op.Divide a b = arithmetic quotient a b
applied op.Remainder a b = arithmetic remainder a b

-- `~a` is -1 - a
abbrev pub prefixed : PrefixOp → Number → Number
prefixed prefix.Plus a = a
prefixed prefix.Minus a = number a.kind (reduced a.kind (pos 0 -ℤ a.exact))
prefixed prefix.LogicNot a = truth (not (is_true a))
prefixed prefix.Invert a = number a.kind (reduced a.kind (negsuc 0 -ℤ a.exact))

-- a number modulo a width, by its sign, and promoted
abbrev pub cast_bits : ℕ → Bool → ℤ → Number
cast_bits bits signed z =
    if bits == 8 then number I32 (reduced I32 (if signed then int_wrap w8 z else int_rem_euclid z (pos (2 ^ 8))))
    else (if bits == 16 then number I32 (reduced I32 (if signed then int_wrap w16 z else int_rem_euclid z (pos (2 ^ 16))))
    else (let kind = if bits == 32 then (if signed then I32 else U32) else (if signed then I64 else U64) in number kind (reduced kind z)))

abbrev pub cast : CastTo → Number → Number
cast (Bits bits signed) a = cast_bits bits signed a.exact
cast Truth a = truth (is_true a)
cast Same a = a
