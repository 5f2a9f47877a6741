-- The tokens of a filter, without where they stand.
use Rattle.std.specs.Prelude.{ℕ, List}
use Rattle.c_operators.specs.declared.binary.BinaryOp.{BinaryOp}

pub data PlainToken : Type 0 where
  -- before the first `:`
  name : List ℕ → PlainToken
  comma : PlainToken
  slash : PlainToken
  colon : PlainToken
  -- after it
  digits : ℕ → PlainToken
  quoted : List ℕ → PlainToken
  identifier : List ℕ → PlainToken
  -- an operator between two operands; `-` may stand before one too
  mark : BinaryOp → PlainToken
  exclamation : PlainToken
  tilde : PlainToken
  opening : PlainToken
  closing : PlainToken
