-- The operators that stand first.
use Rattle.std.specs.Prelude.{ℕ, Bool, true, false, List, ◌∷◌, Option, Some, None, ◌==◌, if◌then◌else◌}
use Rattle.c_operators.specs.Operators.{level_of}
use Rattle.c_operators.specs.declared.binary.BinaryOp.{BinaryOp}
use Rattle.c_operators.specs.declared.binary.BinaryOp.TheVariants as binary
use Rattle.filter_lang.specs.PlainToken.{PlainToken, name, comma, slash, colon, mark, exclamation, tilde}
use Rattle.filter_lang.specs.declared.expr.FilterPrefix.{FilterPrefix}
use Rattle.filter_lang.specs.declared.expr.FilterPrefix.TheVariants.{Not, Minus, Invert}
use Rattle.filter_lang.specs.declared.token.Separator.{Separator}
use Rattle.filter_lang.specs.declared.token.Separator.TheVariants.{Comma, Slash, Colon}

abbrev pub if_level : ℕ → BinaryOp → List PlainToken → Option (BinaryOp × List PlainToken)
if_level level op ts = if level_of op == level then Some (op, ts) else None

-- the first token, if it is an operator of the level, and the tokens after it
abbrev pub op_first : ℕ → List PlainToken → Option (BinaryOp × List PlainToken)
op_first level (mark op ∷ ts) = if_level level op ts
op_first level ts = None

-- the operator that a token is where an operand is to begin: `!`, `-` or `~`
abbrev pub as_prefix : BinaryOp → Option FilterPrefix
as_prefix binary.Minus = Some Minus
as_prefix op = None

abbrev pub prefix_in : PlainToken → Option FilterPrefix
prefix_in (mark op) = as_prefix op
prefix_in exclamation = Some Not
prefix_in tilde = Some Invert
prefix_in t = None

-- the name that stands first, or whether a separator does
abbrev pub first_name : List PlainToken → Option (List ℕ)
first_name (name a ∷ ts) = Some a
first_name ts = None

abbrev pub has : Separator → List PlainToken → Bool
has Comma (comma ∷ ts) = true
has Slash (slash ∷ ts) = true
has Colon (colon ∷ ts) = true
has separator ts = false
