-- A row of operators, one turn after another.
use Rattle.std.proofs.Common.{◌≡◌, ℕ, zero, suc, ◌+◌, ◌-◌, ◌<◌, ◌≤◌, List, [], ◌∷◌, ◌++◌, drop, Some, None, refl, ap, ◌∙◌, arith, length}
use Rattle.filter_lang.specs.PlainToken.{PlainToken}
use Rattle.filter_lang.specs.Tree.{Tree, chain, Operands, no_operands, operand}
use Rattle.filter_lang.specs.TreeView.{tree_of, operands_of}
use Rattle.filter_lang.specs.TokenView.{plain_tokens}
use Rattle.filter_lang.specs.ReaderView.{from}
use Rattle.filter_lang.specs.Ops.{op_first}
use Rattle.filter_lang.specs.ConditionReading.{Parsed, found, refused, ◌>>=◌, Read, row, row_behind, in_chain, chained, with_operand}
use Rattle.filter_lang.specs.TakenView.{Stops}
use Rattle.filter_lang.specs.declared.reader.Reader.{Reader}
use Rattle.filter_lang.specs.declared.token.Token.{Token}
use Rattle.filter_lang.specs.declared.parse_fault.ParseFault.{ParseFault}
use Rattle.filter_lang.specs.declared.parse_fault.ParseFault.TheVariants.{Memory, Before}
use Rattle.c_operators.specs.declared.binary.BinaryOp.{BinaryOp}
use Rattle.filter_lang.specs.declared.expr.FilterOperand.{FilterOperand}

abbrev pub append : Operands → Operands → Operands
append no_operands os = os
append (operand op t rest) os = operand op t (append rest os)

-- the tree of a first operand, operands that were read and a row after them
abbrev pub ends : Tree → Operands → Parsed Operands → Parsed Tree
ends x os (found r rs) = found (chained x (append os r)) rs
ends x os (refused rs) = refused rs

append_none : (os : Operands) → append os no_operands ≡ os
append_none no_operands = refl
append_none (operand op t rest) = ap (operand op t) (append_none rest)

append_more : (os : Operands) (op : BinaryOp) (t : Tree) (rest : Operands) → append os (operand op t rest) ≡ append (append os (operand op t no_operands)) rest
append_more no_operands op t rest = refl
append_more (operand o u os) op t rest = ap (operand o u) (append_more os op t rest)

on_row : (x : Tree) (r : Parsed Operands) → (r >>= in_chain x) ≡ ends x no_operands r
on_row x (found r rs) = refl
on_row x (refused rs) = refl

pub begins : (G : Read) (l : ℕ) (x : Tree) (ts : List PlainToken) → row_behind G l x ts ≡ ends x no_operands (row G l (length ts) ts)
unfolding row_behind
begins G l x ts = on_row x (row G l (length ts) ts)

module _ (G : Read) (l : ℕ) (ts : List PlainToken) (x : Tree) (os : Operands) where
  pub row_over : (m : ℕ) → op_first l ts ≡ None → ends x os (row G l m ts) ≡ found (chained x os) ts
  unfolding row
  row_over zero none = ap (λ (o : Operands). found (chained x o) ts) (append_none os)
  row_over (suc m) none = rw none (ap (λ (o : Operands). found (chained x o) ts) (append_none os))

  pub row_stops : (m : ℕ) (op : BinaryOp) (us rs : List PlainToken) → 0 < m → op_first l ts ≡ Some (op, us) → G us ≡ refused rs → ends x os (row G l m ts) ≡ refused rs
  unfolding row
  row_stops zero op us rs some is there = absurd (omega arith)
  row_stops (suc m) op us rs some is there = rw (is, there) refl

  more_behind : (op : BinaryOp) (y : Tree) (r : Parsed Operands) → ends x os (r >>= with_operand op y) ≡ ends x (append os (operand op y no_operands)) r
  more_behind op y (found r rs) = ap (λ (o : Operands). found (chained x o) rs) (append_more os op y r)
  more_behind op y (refused rs) = refl

  pub row_goes_on : (m : ℕ) (op : BinaryOp) (y : Tree) (us vs : List PlainToken) → 0 < m → op_first l ts ≡ Some (op, us) → G us ≡ found y vs
      → ends x os (row G l m ts) ≡ ends x (append os (operand op y no_operands)) (row G l (m - 1) vs)
  unfolding row
  row_goes_on zero op y us vs some is there = absurd (omega arith)
  row_goes_on (suc m) op y us vs some is there =
      let same : m ≡ suc m - 1 = omega arith in
      rw (is, there) (more_behind op y (row G l m vs)) ∙ ap (λ k. ends x (append os (operand op y no_operands)) (row G l k vs)) same

-- the operands that a Vec holds grow at their end
pub pushed : (os : List FilterOperand) (o : FilterOperand) → operands_of (os ++ o ∷ []) ≡ append (operands_of os) (operand o.op (tree_of o.value) no_operands)
pushed [] o = refl
pushed (p ∷ os) o = ap (operand p.op (tree_of p.value)) (pushed os o)

pub alone : (x : Tree) (ts : List PlainToken) (os : List FilterOperand) → length os ≡ 0 → found (chained x (operands_of os)) ts ≡ found x ts
alone x ts [] e = refl
alone x ts (o ∷ os) e = absurd (omega arith)

pub several : (x : Tree) (ts : List PlainToken) (os : List FilterOperand) → 0 < length os → found (chained x (operands_of os)) ts ≡ found (chain x (operands_of os)) ts
several x ts [] lt = absurd (omega arith)
several x ts (o ∷ os) lt = refl

long : (ts : List Token) (at : ℕ) → length ts ≤ at + length (drop at (plain_tokens ts))
long [] zero = omega arith
long [] (suc at) = omega arith
long (t ∷ ts) zero = let more = long ts zero in omega arith
long (t ∷ ts) (suc at) = let more = long ts at in omega arith

pub left_long : (r : Reader) (at : ℕ) → length r.tokens.now ≤ at + length (from r at)
left_long r at = long r.tokens.now at

-- a stop below is a stop above
pub passed : {A B : Type 0} (r : Reader) (e : ParseFault) (below : Parsed A) (above : Parsed B) → ((rs : List PlainToken) → below ≡ refused rs → above ≡ refused rs) → Stops r e below → Stops r e above
passed r Memory below above f h = tt
passed r (Before at) below above f h = f (from r at) h
