-- The value of a condition, one equation a production of its grammar. Numbers are signed and of 128 bits, and all
-- arithmetic on them wraps; division truncates and the remainder has its left operand's sign, as in C11 6.5.5.
use Rattle.std.specs.Prelude.{ℕ, Bool, true, false, not, ◌&&◌, ◌||◌, List, bytes_eq, if◌then◌else◌, ℤ, pos, int_lt, int_rem}
use Rattle.std.specs.Int.{w128, int_wrapping_add, int_wrapping_sub, int_wrapping_mul, int_wrapping_div, int_wrapping_neg, int_shl, int_shr, int_bit_and, int_bit_or, int_bit_xor, int_bit_not, cast_unsigned}
use Rattle.std.specs.Ordering.{int_eq}
use Rattle.c_operators.specs.declared.binary.BinaryOp.{BinaryOp}
use Rattle.c_operators.specs.declared.binary.BinaryOp.TheVariants.{LogicOr, LogicAnd, BitOr, BitXor, BitAnd, Equal, NotEqual, Less, LessEqual, Greater, GreaterEqual, ShiftLeft, ShiftRight, Plus, Minus, Times, Divide, Remainder}
use Rattle.filter_lang.specs.Tree.{Tree, number, text, field, prefix, chain, Operands, no_operands, operand}
use Rattle.filter_lang.specs.declared.expr.FilterPrefix.{FilterPrefix}
use Rattle.filter_lang.specs.declared.expr.FilterPrefix.TheVariants as before

-- a signed number of 128 bits, a text, or what a field has that the event lacks
pub data ValueData : Type 0 where
  a_number : ℤ → ValueData
  a_text : List ℕ → ValueData
  absent : ValueData

abbrev pub is_true : ValueData → Bool
is_true (a_number n) = not (int_eq n (pos 0))
is_true (a_text bytes) = false
is_true absent = false

abbrev pub bit : Bool → ValueData
bit test = a_number (if test then pos 1 else pos 0)

-- a count outside 0 to 127 gives 0
abbrev pub is_count : ℤ → Bool
is_count by = not (int_lt by (pos 0)) && not (int_lt (pos 127) by)

unfoldable pub shift_left : ℤ → ℤ → ℤ
shift_left a by = if is_count by then int_shl w128 a (cast_unsigned w128 by) else pos 0

unfoldable pub shift_right : ℤ → ℤ → ℤ
shift_right a by = if is_count by then int_shr a (cast_unsigned w128 by) else pos 0

-- the operators of C on numbers; a division by 0 gives 0
unfoldable pub arithmetic : BinaryOp → ℤ → ℤ → ℤ
arithmetic BitOr a b = int_bit_or w128 a b
arithmetic BitXor a b = int_bit_xor w128 a b
arithmetic BitAnd a b = int_bit_and w128 a b
arithmetic ShiftLeft a b = shift_left a b
arithmetic ShiftRight a b = shift_right a b
arithmetic Plus a b = int_wrapping_add w128 a b
arithmetic Minus a b = int_wrapping_sub w128 a b
arithmetic Times a b = int_wrapping_mul w128 a b
arithmetic Divide a b = if int_eq b (pos 0) then pos 0 else int_wrapping_div w128 a b
arithmetic Remainder a b = if int_eq b (pos 0) then pos 0 else int_rem a b
arithmetic op a b = pos 0

abbrev pub is_comparison : BinaryOp → Bool
is_comparison Equal = true
is_comparison NotEqual = true
is_comparison Less = true
is_comparison LessEqual = true
is_comparison Greater = true
is_comparison GreaterEqual = true
is_comparison op = false

abbrev pub compared : BinaryOp → ℤ → ℤ → Bool
compared Equal a b = int_eq a b
compared NotEqual a b = not (int_eq a b)
compared Less a b = int_lt a b
compared LessEqual a b = not (int_lt b a)
compared Greater a b = int_lt b a
compared GreaterEqual a b = not (int_lt a b)
compared op a b = false

-- texts are the same or not, and have no order
abbrev pub same_text : BinaryOp → List ℕ → List ℕ → Bool
same_text Equal a b = bytes_eq a b
same_text NotEqual a b = not (bytes_eq a b)
same_text op a b = false

-- with an absent value, or of a text with a number, nothing holds
abbrev pub comparison : BinaryOp → ValueData → ValueData → Bool
comparison op (a_number a) (a_number b) = compared op a b
comparison op (a_text a) (a_text b) = same_text op a b
comparison op a b = false

-- only numbers are computed with
abbrev pub computed : BinaryOp → ValueData → ValueData → ValueData
computed op (a_number a) (a_number b) = a_number (arithmetic op a b)
computed op a b = absent

-- the operators of logic look at truth alone
abbrev pub binary : BinaryOp → ValueData → ValueData → ValueData
binary LogicOr a b = bit (is_true a || is_true b)
binary LogicAnd a b = bit (is_true a && is_true b)
binary op a b = if is_comparison op then bit (comparison op a b) else computed op a b

abbrev pub negated : ValueData → ValueData
negated (a_number a) = a_number (int_wrapping_neg w128 a)
negated v = absent

abbrev pub inverted : ValueData → ValueData
inverted (a_number a) = a_number (int_bit_not w128 a)
inverted v = absent

abbrev pub prefixed : FilterPrefix → ValueData → ValueData
prefixed before.Not v = bit (not (is_true v))
prefixed before.Minus v = negated v
prefixed before.Invert v = inverted v

-- the value of a condition, where every name of a field has a value
abbrev mutual
  pub value_of : (List ℕ → ValueData) → Tree → ValueData
  value_of fields (number n) = a_number (pos n)
  value_of fields (text bytes) = a_text bytes
  value_of fields (field name) = fields name
  value_of fields (prefix op t) = prefixed op (value_of fields t)
  value_of fields (chain t rest) = along fields (value_of fields t) rest

  pub along : (List ℕ → ValueData) → ValueData → Operands → ValueData
  along fields v no_operands = v
  along fields v (operand op t rest) = along fields (binary op v (value_of fields t)) rest
