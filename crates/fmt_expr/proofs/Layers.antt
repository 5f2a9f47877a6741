-- What stands at a place, by what its first token begins.
use Rattle.std.proofs.Common.{◌≡◌, ℕ, zero, suc, ◌-◌, ◌<◌, true, false, Some, None, refl, ap, ◌∙◌, sym, arith, codes}
use Rattle.fmt_expr.specs.Source.{Source, is_mark}
use Rattle.fmt_expr.specs.Heads.{head_at}
use Rattle.fmt_expr.specs.Parsing.{Found, Read, Inner, level_at, choice_at, cond_with, field_at, open_at, prefixed_at, call_by, leaf_at, unary_by, unary_with, top, layer, within, inner_of, unary_at, cond_at, inner_unary, inner_cond}
use Rattle.fmt_expr.specs.declared.expr.PrefixOp.{PrefixOp}
use Rattle.fmt_expr.specs.declared.head.Builtin.{Builtin}
use Rattle.fmt_expr.specs.declared.head.Head.{Head}
use Rattle.fmt_expr.specs.declared.head.Head.TheVariants.{Operator, Open, Record, Builtin as Called, Other}

pub within_is : (s : Source) (left : ℕ) → within s left ≡ layer s left (inner_of s left)
unfolding within inner_of
within_is s zero = refl
within_is s (suc left) = refl

pub unary_is : (s : Source) (left i : ℕ) → unary_at s left i ≡ unary_with s left (inner_of s left) i
unfolding layer
unary_is s left i = ap (λ (w : Inner). w.unary i) (within_is s left)

unary_same : (s : Source) (left : ℕ) → unary_at s left ≡ unary_with s left (inner_of s left)
unfolding layer
unary_same s left = ap (λ (w : Inner). w.unary) (within_is s left)

pub cond_is : (s : Source) (left i : ℕ) → cond_at s left i ≡ cond_with s left (level_at s (unary_at s left) top) (inner_cond s left) i
unfolding layer
cond_is s left i = ap (λ (w : Inner). w.cond i) (within_is s left) ∙ ap (λ (r : Read). cond_with s left (level_at s r top) (inner_cond s left) i) (sym (unary_same s left))

inner_is : (s : Source) (left : ℕ) → 0 < left → inner_of s left ≡ within s (left - 1)
unfolding inner_of
inner_is s zero lt = absurd (omega arith)
inner_is s (suc left) lt = ap (within s) (omega arith)

-- one level deeper
pub more_unary : (s : Source) (left i : ℕ) → 0 < left → inner_unary s left i ≡ unary_at s (left - 1) i
more_unary s left i lt = ap (λ (w : Inner). w.unary i) (inner_is s left lt)

pub more_cond : (s : Source) (left i : ℕ) → 0 < left → inner_cond s left i ≡ cond_at s (left - 1) i
more_cond s left i lt = ap (λ (w : Inner). w.cond i) (inner_is s left lt)

pub no_unary : (s : Source) (left i : ℕ) → left ≡ 0 → inner_unary s left i ≡ None
unfolding inner_of
no_unary s zero i e = refl
no_unary s (suc left) i e = absurd (omega arith)

pub no_cond : (s : Source) (left i : ℕ) → left ≡ 0 → inner_cond s left i ≡ None
unfolding inner_of
no_cond s zero i e = refl
no_cond s (suc left) i e = absurd (omega arith)

by_head : (s : Source) (left i : ℕ) (h : Head) → head_at s i ≡ h → unary_at s left i ≡ unary_by s left (inner_of s left) i h
unfolding unary_with
by_head s left i h e = unary_is s left i ∙ ap (unary_by s left (inner_of s left) i) e

pub at_operator : (s : Source) (left i : ℕ) (op : PrefixOp) → head_at s i ≡ Operator op → unary_at s left i ≡ prefixed_at (inner_unary s left) op i
at_operator s left i op e = by_head s left i (Operator op) e

pub at_open : (s : Source) (left i : ℕ) → head_at s i ≡ Open → unary_at s left i ≡ open_at s (inner_of s left) i
at_open s left i e = by_head s left i Open e

pub at_record : (s : Source) (left i : ℕ) → head_at s i ≡ Record → unary_at s left i ≡ field_at s (inner_cond s left) i
at_record s left i e = by_head s left i Record e

pub at_call : (s : Source) (left i : ℕ) (call : Builtin) → head_at s i ≡ Called call → unary_at s left i ≡ call_by s left (inner_of s left) i call
at_call s left i call e = by_head s left i (Called call) e

pub at_other : (s : Source) (left i : ℕ) → head_at s i ≡ Other → unary_at s left i ≡ leaf_at s i
at_other s left i e = by_head s left i Other e

pub cond_none : (s : Source) (left i : ℕ) → level_at s (unary_at s left) top i ≡ None → cond_at s left i ≡ None
unfolding cond_with
cond_none s left i none = cond_is s left i ∙ rw none refl

pub cond_plain : (s : Source) (left i : ℕ) (x : Found) → level_at s (unary_at s left) top i ≡ Some x → is_mark s x.next (codes "?") ≡ false → cond_at s left i ≡ Some x
unfolding cond_with
cond_plain s left i x is never = cond_is s left i ∙ rw (is, never) refl

pub cond_choice : (s : Source) (left i : ℕ) (x : Found) → level_at s (unary_at s left) top i ≡ Some x → is_mark s x.next (codes "?") ≡ true → cond_at s left i ≡ choice_at s left (inner_cond s left) x
unfolding cond_with
cond_choice s left i x is yes' = cond_is s left i ∙ rw (is, yes') refl
