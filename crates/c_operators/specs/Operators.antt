-- The operators between two operands, after C11 6.5.5 to 6.5.14: those of C, without the conditional operator,
-- assignment and the comma.
use Rattle.std.specs.Prelude.{ℕ, List, Option, Some, None, if◌then◌else◌, bytes_eq, codes}
use Rattle.c_operators.specs.declared.binary.BinaryOp.{BinaryOp}
use Rattle.c_operators.specs.declared.binary.BinaryOp.TheVariants.{LogicOr, LogicAnd, BitOr, BitXor, BitAnd, Equal, NotEqual, Less, LessEqual, Greater, GreaterEqual, ShiftLeft, ShiftRight, Plus, Minus, Times, Divide, Remainder}

-- the operator that a mark is
unfoldable pub op_of : List ℕ → Option BinaryOp
op_of m =
    if bytes_eq m (codes "||") then Some LogicOr
    else if bytes_eq m (codes "&&") then Some LogicAnd
    else if bytes_eq m (codes "|") then Some BitOr
    else if bytes_eq m (codes "^") then Some BitXor
    else if bytes_eq m (codes "&") then Some BitAnd
    else if bytes_eq m (codes "==") then Some Equal
    else if bytes_eq m (codes "!=") then Some NotEqual
    else if bytes_eq m (codes "<") then Some Less
    else if bytes_eq m (codes "<=") then Some LessEqual
    else if bytes_eq m (codes ">") then Some Greater
    else if bytes_eq m (codes ">=") then Some GreaterEqual
    else if bytes_eq m (codes "<<") then Some ShiftLeft
    else if bytes_eq m (codes ">>") then Some ShiftRight
    else if bytes_eq m (codes "+") then Some Plus
    else if bytes_eq m (codes "-") then Some Minus
    else if bytes_eq m (codes "*") then Some Times
    else if bytes_eq m (codes "/") then Some Divide
    else if bytes_eq m (codes "%") then Some Remainder
    else None

-- how tightly each binds, the tightest first
abbrev pub level_of : BinaryOp → ℕ
level_of Times = 1
level_of Divide = 1
level_of Remainder = 1
level_of Plus = 2
level_of Minus = 2
level_of ShiftLeft = 3
level_of ShiftRight = 3
level_of Less = 4
level_of LessEqual = 4
level_of Greater = 4
level_of GreaterEqual = 4
level_of Equal = 5
level_of NotEqual = 5
level_of BitAnd = 6
level_of BitXor = 7
level_of BitOr = 8
level_of LogicAnd = 9
level_of LogicOr = 10
