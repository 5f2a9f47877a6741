-- The tree of a condition, computed, or the tokens before which it is refused.
use Rattle.std.specs.Prelude.{ℕ, zero, suc, List, [], ◌∷◌, length, Option, Some, None}
use Rattle.filter_lang.specs.PlainToken.{PlainToken, digits, quoted, identifier, opening, closing}
use Rattle.filter_lang.specs.Tree.{Tree, number, text, field, prefix, chain, Operands, no_operands, operand}
use Rattle.filter_lang.specs.Ops.{op_first, prefix_in}
use Rattle.c_operators.specs.declared.binary.BinaryOp.{BinaryOp}
use Rattle.filter_lang.specs.declared.expr.FilterPrefix.{FilterPrefix}

-- what was found and the tokens after it, or the tokens that nothing goes on with
pub data Parsed (A : Type 0) : Type 0 where
  found : A → List PlainToken → Parsed A
  refused : List PlainToken → Parsed A

infixl 10 ◌>>=◌
abbrev pub ◌>>=◌ : {A B : Type 0} → Parsed A → (A → List PlainToken → Parsed B) → Parsed B
found x rs >>= f = f x rs
refused rs >>= f = refused rs

abbrev pub Read : Type 0
Read = List PlainToken → Parsed Tree

abbrev pub with_operand : BinaryOp → Tree → Operands → List PlainToken → Parsed Operands
with_operand op t os rs = found (operand op t os) rs

abbrev pub behind_operand : (List PlainToken → Parsed Operands) → BinaryOp → Tree → List PlainToken → Parsed Operands
behind_operand more op t rs = more rs >>= with_operand op t

abbrev pub row_step : Read → (List PlainToken → Parsed Operands) → List PlainToken → Option (BinaryOp × List PlainToken) → Parsed Operands
row_step read more ts None = found no_operands ts
row_step read more ts (Some o) = read o.1 >>= behind_operand more o.0

-- operators of a level with what follows each; the number bounds the turns, and that of the tokens is enough
unfoldable pub row : Read → ℕ → ℕ → List PlainToken → Parsed Operands
row read level zero ts = found no_operands ts
row read level (suc m) ts = row_step read (row read level m) ts (op_first level ts)

-- a chain has operands
abbrev pub chained : Tree → Operands → Tree
chained t no_operands = t
chained t (operand op u rest) = chain t (operand op u rest)

abbrev pub in_chain : Tree → Operands → List PlainToken → Parsed Tree
in_chain t os rs = found (chained t os) rs

unfoldable pub row_behind : Read → ℕ → Tree → List PlainToken → Parsed Tree
row_behind read level t rs = row read level (length rs) rs >>= in_chain t

unfoldable pub level_by : Read → ℕ → Read
level_by read zero ts = read ts
level_by read (suc level) ts = level_by read level ts >>= row_behind (level_by read level) (suc level)

-- a bracket that closes
abbrev pub close : Tree → List PlainToken → Parsed Tree
close t (closing ∷ rs) = found t rs
close t rs = refused rs

abbrev pub below : FilterPrefix → Tree → List PlainToken → Parsed Tree
below op t rs = found (prefix op t) rs

-- what may open a bracket or follow a prefix operator: nothing, or a reader of what a prefix operator applies to
abbrev pub bracket_in : Read → Read
bracket_in inner ts = level_by inner 10 ts >>= close

abbrev pub under : Read → FilterPrefix → Read
under inner op ts = inner ts >>= below op

abbrev pub bracket_by : Option Read → List PlainToken → Parsed Tree
bracket_by None ts = refused (opening ∷ ts)
bracket_by (Some inner) ts = bracket_in inner ts

abbrev pub value_from : Option Read → PlainToken → List PlainToken → Parsed Tree
value_from inner (digits value) ts = found (number value) ts
value_from inner (quoted bytes) ts = found (text bytes) ts
value_from inner (identifier bytes) ts = found (field bytes) ts
value_from inner opening ts = bracket_by inner ts
value_from inner t ts = refused (t ∷ ts)

-- a prefix operator and what it applies to, or a value or a bracket
abbrev pub prefix_by : Option FilterPrefix → Option Read → PlainToken → List PlainToken → Parsed Tree
prefix_by None inner t ts = value_from inner t ts
prefix_by (Some op) None t ts = refused (t ∷ ts)
prefix_by (Some op) (Some inner) t ts = under inner op ts

abbrev pub unary_from : Option Read → PlainToken → List PlainToken → Parsed Tree
unary_from inner t ts = prefix_by (prefix_in t) inner t ts

unfoldable pub unary_by : Option Read → Read
unary_by inner [] = refused []
unary_by inner (t ∷ ts) = unary_from inner t ts

-- what stands before, or without, a binary operator, where so many brackets and prefix operators may still open
unfoldable pub unary_at : ℕ → Read
unary_at zero = unary_by None
unary_at (suc n) = unary_by (Some (unary_at n))

abbrev pub level_at : ℕ → ℕ → Read
level_at n l = level_by (unary_at n) l

abbrev pub cond_at : ℕ → Read
cond_at n = level_at n 10
