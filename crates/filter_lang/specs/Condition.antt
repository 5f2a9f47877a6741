-- The condition of a filter: from the tokens that begin with it to its tree and the tokens after it.
use Rattle.std.specs.Prelude.{◌≡◌, ℕ, zero, suc, List, ◌∷◌, Some, None}
use Rattle.filter_lang.specs.PlainToken.{PlainToken, digits, quoted, identifier, mark, opening, closing}
use Rattle.filter_lang.specs.Tree.{Tree, number, text, field, prefix, chain, Operands, no_operands, operand}
use Rattle.c_operators.specs.Operators.{level_of}
use Rattle.filter_lang.specs.Ops.{op_first, prefix_in}
use Rattle.c_operators.specs.declared.binary.BinaryOp.{BinaryOp}
use Rattle.filter_lang.specs.declared.expr.FilterPrefix.{FilterPrefix}

-- The first number is the room: so many brackets and prefix operators may still open.
mutual
  -- the operators of a level and of those that bind tighter; those of level 10 are `||`, and at level 0 there are none
  pub data IsLevel : ℕ → ℕ → List PlainToken → Tree → List PlainToken → Type 0 where
    alone : {n : ℕ} {ts rs : List PlainToken} {t : Tree} → IsUnary n ts t rs → IsLevel n zero ts t rs
    single : {n l : ℕ} {ts rs : List PlainToken} {t : Tree} → IsLevel n l ts t rs → op_first (suc l) rs ≡ None → IsLevel n (suc l) ts t rs
    several : {n l : ℕ} {ts us vs rs : List PlainToken} {t u : Tree} {op : BinaryOp} {rest : Operands} → IsLevel n l ts t (mark op ∷ us) → level_of op ≡ suc l
        → IsLevel n l us u vs → IsRow n l vs rest rs → IsLevel n (suc l) ts (chain t (operand op u rest)) rs

  -- operators with what follows each, for as long as the next token is one of them
  pub data IsRow : ℕ → ℕ → List PlainToken → Operands → List PlainToken → Type 0 where
    no_more : {n l : ℕ} {ts : List PlainToken} → op_first (suc l) ts ≡ None → IsRow n l ts no_operands ts
    goes_on : {n l : ℕ} {us vs rs : List PlainToken} {u : Tree} {op : BinaryOp} {rest : Operands} → level_of op ≡ suc l → IsLevel n l us u vs → IsRow n l vs rest rs
        → IsRow n l (mark op ∷ us) (operand op u rest) rs

  pub data IsUnary : ℕ → List PlainToken → Tree → List PlainToken → Type 0 where
    prefixed : {n : ℕ} {token : PlainToken} {ts rs : List PlainToken} {t : Tree} {op : FilterPrefix} → prefix_in token ≡ Some op → IsUnary n ts t rs → IsUnary (suc n) (token ∷ ts) (prefix op t) rs
    bracketed : {n : ℕ} {ts rs : List PlainToken} {t : Tree} → IsLevel n 10 ts t (closing ∷ rs) → IsUnary (suc n) (opening ∷ ts) t rs
    a_number : {n value : ℕ} {rs : List PlainToken} → IsUnary n (digits value ∷ rs) (number value) rs
    a_text : {n : ℕ} {bytes : List ℕ} {rs : List PlainToken} → IsUnary n (quoted bytes ∷ rs) (text bytes) rs
    a_field : {n : ℕ} {bytes : List ℕ} {rs : List PlainToken} → IsUnary n (identifier bytes ∷ rs) (field bytes) rs
