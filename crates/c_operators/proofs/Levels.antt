-- Each operator has a level of 1 or more.
use Rattle.std.proofs.Common.{◌<◌, arith}
use Rattle.c_operators.specs.Operators.{level_of}
use Rattle.c_operators.specs.declared.binary.BinaryOp.{BinaryOp}
use Rattle.c_operators.specs.declared.binary.BinaryOp.TheVariants.{LogicOr, LogicAnd, BitOr, BitXor, BitAnd, Equal, NotEqual, Less, LessEqual, Greater, GreaterEqual, ShiftLeft, ShiftRight, Plus, Minus, Times, Divide, Remainder}

pub some_level : (op : BinaryOp) → 0 < level_of op
some_level LogicOr = omega arith
some_level LogicAnd = omega arith
some_level BitOr = omega arith
some_level BitXor = omega arith
some_level BitAnd = omega arith
some_level Equal = omega arith
some_level NotEqual = omega arith
some_level Less = omega arith
some_level LessEqual = omega arith
some_level Greater = omega arith
some_level GreaterEqual = omega arith
some_level ShiftLeft = omega arith
some_level ShiftRight = omega arith
some_level Plus = omega arith
some_level Minus = omega arith
some_level Times = omega arith
some_level Divide = omega arith
some_level Remainder = omega arith
