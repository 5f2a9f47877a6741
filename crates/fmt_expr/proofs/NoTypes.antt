-- Where no type stands in brackets.
use Rattle.std.proofs.Common.{◌≡◌, ℕ, ◌+◌, ◌<◌, false, Some, None, refl, ap, sym, ◌∙◌, codes, rules, arith, nat_lt, inl, inr}
use Rattle.fmt_expr.specs.Source.{Source, is_text, is_mark, mark_at, name_at}
use Rattle.fmt_expr.specs.Heads.{head_at}
use Rattle.fmt_expr.specs.Types.{TypeName, is_type_name, names_len, stars_len, type_at, if_closed, closed_type}
use Rattle.fmt_expr.specs.Fields.{dynamic_at}
use Rattle.fmt_expr.specs.declared.head.Head.TheVariants.{Record}
use Rattle.trace_base.specs.declared.field.Field.{Field}
use Rattle.fmt_expr.proofs.Chances.{bind_some, guarded, some_is}
use Rattle.fmt_expr.proofs.Places.{mark_no_name, mark_true, mark_is, record_name}
use Rattle.fmt_expr.proofs.TypeRows.{no_type, names_step, names_stop, stars_stop}
use Rattle.std.proofs.lemmas.Bool.{cases_Bool}

pub unnamed_no_type : (s : Source) (i : ℕ) → name_at s i ≡ None → closed_type s i ≡ None
unnamed_no_type s i e = no_type s i (ap is_type_name e)

pub record_no_type : (s : Source) (i : ℕ) → head_at s i ≡ Record → closed_type s i ≡ None
record_no_type s i e = elim (record_name s i e) [ inl none ↦ unnamed_no_type s i none | inr is ↦ no_type s i (ap is_type_name is) ]

open_no_star : (s : Source) (i : ℕ) → mark_at s i ≡ Some (codes "(") → is_mark s i (codes "*") ≡ false
unfolding is_mark
open_no_star s i e = ap (λ o. is_text o (codes "*")) e

open_no_close : (s : Source) (i : ℕ) → mark_at s i ≡ Some (codes "(") → is_mark s i (codes ")") ≡ false
unfolding is_mark
open_no_close s i e = ap (λ o. is_text o (codes ")")) e

one_name_open : (s : Source) (i : ℕ) → names_len s i ≡ 1 → stars_len s (i + 1) ≡ 0 → is_mark s (i + 1) (codes ")") ≡ false → closed_type s i ≡ None
unfolding closed_type type_at
one_name_open s i one stars close = let there : i + 1 + 0 ≡ i + 1 = omega arith in rw (one, stars, there, close) refl

-- before a bracket that opens stands no type in brackets
pub open_no_type : (s : Source) (i : ℕ) → mark_at s (i + 1) ≡ Some (codes "(") → closed_type s i ≡ None
open_no_type s i open' = elim (cases_Bool (is_type_name (name_at s i))) [
  | inr never ↦ no_type s i never
  | inl some ↦
      let behind : names_len s (i + 1) ≡ 0 = names_stop s (i + 1) (ap is_type_name (mark_no_name s (i + 1) (codes "(") open')) in
      let one : names_len s i ≡ 1 = omega (arith, names_step s i some, behind) in
      one_name_open s i one (stars_stop s (i + 1) (open_no_star s (i + 1) open')) (open_no_close s (i + 1) open')
]

pub dynamic_no_type : (s : Source) (i : ℕ) (f : Field) → dynamic_at s i ≡ Some f → closed_type s i ≡ None
unfolding dynamic_at
dynamic_no_type s i f e = open_no_type s i (mark_is s (i + 1) (codes "(") (guarded (is_mark s (i + 1) (codes "(")) _ f e).0)

pub type_closed : (s : Source) (i : ℕ) (t : TypeName) → type_at s i ≡ Some t → mark_at s t.next ≡ Some (codes ")") → closed_type s i ≡ Some t
unfolding closed_type
type_closed s i t type close = rw (type, mark_true s t.next (codes ")") close) refl

pub type_moves : (s : Source) (i : ℕ) (t : TypeName) → type_at s i ≡ Some t → i < t.next
unfolding type_at
type_moves s i t e =
    let g = guarded (nat_lt 0 (names_len s i)) _ t e in
    let some : 0 < names_len s i = search (rules, g.0) in
    let there : i + names_len s i + stars_len s (i + names_len s i) ≡ t.next = ap (λ (u : TypeName). u.next) (some_is _ t g.1) in
    omega (arith, some, there)

-- the parts of a type in brackets
pub closed_parts : (s : Source) (i : ℕ) (t : TypeName) → closed_type s i ≡ Some t → (type_at s i ≡ Some t) × (mark_at s t.next ≡ Some (codes ")"))
unfolding closed_type
closed_parts s i t e =
    let x = bind_some (type_at s i) (if_closed s) t e in
    let g = guarded (is_mark s x.0.next (codes ")")) _ t x.2 in
    let same = some_is x.0 t g.1 in
    (x.1 ∙ ap (λ (u : TypeName). Some u) same, ap (λ (u : TypeName). mark_at s u.next) (sym same) ∙ mark_is s x.0.next (codes ")") g.0)
