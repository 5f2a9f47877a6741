-- Each tree that is derived is computed.
use Rattle.std.proofs.Common.{◌≡◌, ℕ, zero, suc, ◌≤◌, true, List, ◌∷◌, length, Option, Some, None, refl, ◌∙◌, arith, rules, ◌==◌}
use Rattle.c_operators.specs.Operators.{level_of}
use Rattle.filter_lang.specs.PlainToken.{PlainToken, mark, opening, closing, digits, quoted, identifier}
use Rattle.filter_lang.specs.Tree.{Tree, prefix, Operands, no_operands, operand}
use Rattle.filter_lang.specs.Ops.{prefix_in, op_first}
use Rattle.filter_lang.specs.ConditionReading.{Parsed, found, Read, row, row_behind, in_chain, level_by, unary_by, unary_from, unary_at, level_at}
use Rattle.filter_lang.specs.Condition.{IsLevel, alone, single, several, IsRow, no_more, goes_on, IsUnary, prefixed, bracketed, a_number, a_text, a_field}
use Rattle.c_operators.specs.declared.binary.BinaryOp.{BinaryOp}
use Rattle.filter_lang.specs.declared.expr.FilterPrefix.{FilterPrefix}
use Rattle.filter_lang.proofs.Moves.{level_moves}

pub op_same : (l : ℕ) (op : BinaryOp) (ts : List PlainToken) → level_of op ≡ l → op_first l (mark op ∷ ts) ≡ Some (op, ts)
op_same l op ts e = let same : (level_of op == l) ≡ true = search (rules, e) in rw same refl

pub row_over : (read : Read) (l m : ℕ) (ts : List PlainToken) → op_first (suc l) ts ≡ None → row read (suc l) m ts ≡ found no_operands ts
unfolding row
row_over read l zero ts none = refl
row_over read l (suc m) ts none = rw none refl

pub row_more : (read : Read) (l m : ℕ) (op : BinaryOp) (us vs rs : List PlainToken) (u : Tree) (os : Operands) → level_of op ≡ suc l → read us ≡ found u vs → row read (suc l) m vs ≡ found os rs
    → row read (suc l) (suc m) (mark op ∷ us) ≡ found (operand op u os) rs
unfolding row
row_more read l m op us vs rs u os is there behind = rw (op_same (suc l) op us is, there, behind) refl

pub at_zero : (n : ℕ) (ts : List PlainToken) → level_at n zero ts ≡ unary_at n ts
unfolding level_by
at_zero n ts = refl

pub level_next : (n l : ℕ) (ts rs vs : List PlainToken) (x : Tree) (os : Operands) → level_at n l ts ≡ found x rs → row (level_at n l) (suc l) (length rs) rs ≡ found os vs → level_at n (suc l) ts ≡ in_chain x os vs
unfolding level_by row_behind
level_next n l ts rs vs x os there behind = rw (there, behind) refl

pub unary_leaf : (n : ℕ) (t : PlainToken) (ts : List PlainToken) (out : Parsed Tree) → ((inner : Option Read) → unary_from inner t ts ≡ out) → unary_at n (t ∷ ts) ≡ out
unfolding unary_at unary_by
unary_leaf zero t ts out e = e None
unary_leaf (suc n) t ts out e = e (Some (unary_at n))

pub unary_opens : (n : ℕ) (ts rs : List PlainToken) (x : Tree) → level_at n 10 ts ≡ found x (closing ∷ rs) → unary_at (suc n) (opening ∷ ts) ≡ found x rs
unfolding unary_at unary_by
unary_opens n ts rs x there = rw there refl

under_there : (inner : Read) (t : PlainToken) (op : FilterPrefix) (ts rs : List PlainToken) (x : Tree) → prefix_in t ≡ Some op → inner ts ≡ found x rs → unary_by (Some inner) (t ∷ ts) ≡ found (prefix op x) rs
unfolding unary_by
under_there inner t op ts rs x is there = rw (is, there) refl

pub unary_is : (n : ℕ) (ts : List PlainToken) → unary_at (suc n) ts ≡ unary_by (Some (unary_at n)) ts
unfolding unary_at
unary_is n ts = refl

pub unary_under : (n : ℕ) (t : PlainToken) (op : FilterPrefix) (ts rs : List PlainToken) (x : Tree) → prefix_in t ≡ Some op → unary_at n ts ≡ found x rs → unary_at (suc n) (t ∷ ts) ≡ found (prefix op x) rs
unary_under n t op ts rs x is there = unary_is n (t ∷ ts) ∙ under_there (unary_at n) t op ts rs x is there

mutual
  pub level_again : {n l : ℕ} {ts rs : List PlainToken} {t : Tree} → IsLevel n l ts t rs → level_at n l ts ≡ found t rs
  level_again {n} {l} {ts} (alone d) = at_zero n ts ∙ unary_again d
  level_again {n} {l} {ts} {rs} {t} (single {l = m} d none) = level_next n m ts rs rs t no_operands (level_again d) (row_over (level_at n m) m (length rs) rs none)
  level_again {n} {l} {ts} {rs} (several {l = m} {us = us} {vs = vs} {t = t} {u = u} {op = op} {rest = rest} d is e r) =
      level_next n m ts (mark op ∷ us) rs t (operand op u rest) (level_again d)
      (row_more (level_at n m) m (length us) op us vs rs u rest is (level_again e) (row_again r (length us) (let lt = level_moves e in omega arith)))

  pub row_again : {n l : ℕ} {ts rs : List PlainToken} {os : Operands} → IsRow n l ts os rs → (m : ℕ) → length ts ≤ m → row (level_at n l) (suc l) m ts ≡ found os rs
  row_again {n} {l} {ts} (no_more none) m enough = row_over (level_at n l) l m ts none
  row_again (goes_on is d r) zero enough = absurd (omega arith)
  row_again {n} {l} {ts} {rs} (goes_on {us = us} {vs = vs} {u = u} {op = op} {rest = rest} is d r) (suc m) enough =
      row_more (level_at n l) l m op us vs rs u rest is (level_again d) (row_again r m (let lt = level_moves d in omega arith))

  pub unary_again : {n : ℕ} {ts rs : List PlainToken} {t : Tree} → IsUnary n ts t rs → unary_at n ts ≡ found t rs
  unary_again {n} {ts} {rs} (prefixed {n = m} {token = token} {ts = us} {t = t} {op = op} is d) = unary_under m token op us rs t is (unary_again d)
  unary_again {n} {ts} {rs} {t} (bracketed {n = m} {ts = us} d) = unary_opens m us rs t (level_again d)
  unary_again {n} {ts} {rs} {t} (a_number {value = value}) = unary_leaf n (digits value) rs (found t rs) (λ inner. refl)
  unary_again {n} {ts} {rs} {t} (a_text {bytes = bytes}) = unary_leaf n (quoted bytes) rs (found t rs) (λ inner. refl)
  unary_again {n} {ts} {rs} {t} (a_field {bytes = bytes}) = unary_leaf n (identifier bytes) rs (found t rs) (λ inner. refl)
