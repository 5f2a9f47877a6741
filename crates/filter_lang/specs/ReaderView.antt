use Rattle.std.specs.Prelude.{ℕ, ◌+◌, List, drop}
use Rattle.filter_lang.specs.PlainToken.{PlainToken}
use Rattle.filter_lang.specs.TokenView.{plain_tokens}
use Rattle.c_operators.specs.declared.binary.BinaryOp.{BinaryOp}
use Rattle.filter_lang.specs.declared.reader.Reader.{Reader}

-- the tokens from a place on
abbrev pub from : Reader → ℕ → List PlainToken
from r at = drop at (plain_tokens r.tokens.now)

abbrev pub op_view : Reader → ℕ → BinaryOp → BinaryOp × List PlainToken
op_view r at op = (op, from r (at + 1))
