-- Rows of operands that are bound, and that binding changes no value.
use Rattle.std.proofs.Common.{◌≡◌, ℕ, zero, suc, ◌+◌, ◌<◌, ◌≤◌, Bool, true, false, if◌then◌else◌, List, [], ◌∷◌, Option, Some, None, drop, length, get_or, refl, ap, sym, ◌∙◌, ◌++◌, arith, codes, bytes_eq}
use Rattle.trace_base.specs.declared.field.Field.{Field}
use Rattle.trace_base.specs.Fields.{field_named}
use Rattle.filter_lang.specs.Tree.{Tree, number, text, field, prefix, chain, Operands, no_operands, operand}
use Rattle.filter_lang.specs.TreeView.{tree_of, operands_of}
use Rattle.c_operators.specs.declared.binary.BinaryOp.{BinaryOp}
use Rattle.filter_lang.specs.declared.expr.FilterOperand.{FilterOperand}
use Rattle.filter_truth.specs.Values.{ValueData, binary, prefixed, value_of, along}
use Rattle.filter_truth.specs.Naming.{EventData, named_value, value_if}
use Rattle.filter_truth.specs.Bound.{BoundTree, BoundRow, b_task, b_cpu, b_end, b_more, bound_value, bound_along, bind_field, bind_name, bind_tree, bind_row}
use Rattle.filter_truth.specs.BoundView.{bound_of, bound_in, bound_row}
use Rattle.filter_truth.specs.declared.bound_expr.BoundOperand.{BoundOperand}
use Rattle.filter_truth.specs.declared.bound_expr.BoundExpr.{Row_of-BoundOperand, end_of-BoundOperand, more_of-BoundOperand, items-the_row-BoundOperand}

pub bound_in_row : (at : ℕ → Option Field) {n : _} (k : Row_of-BoundOperand n) → bound_in at k ≡ bound_row at (items-the_row-BoundOperand n k)
bound_in_row at end_of-BoundOperand = refl
bound_in_row at (more_of-BoundOperand op e rest) = ap (b_more op (bound_of at e)) (bound_in_row at rest)

-- a name has the value of what it is bound to
chosen : (b : Bool) (e : EventData) (x y : BoundTree) (v w : ValueData) → bound_value e x ≡ v → bound_value e y ≡ w → bound_value e (if b then x else y) ≡ (if b then v else w)
chosen true e x y v w p q = p
chosen false e x y v w p q = q

same_field : (e : EventData) (o : Option Field) → bound_value e (bind_field o) ≡ value_if e o
same_field e None = refl
same_field e (Some f) = refl

same_name : (fields : List Field) (e : EventData) (name : List ℕ) → bound_value e (bind_name fields name) ≡ named_value fields e name
same_name fields e name =
    let named : BoundTree = bind_field (field_named name fields) in
    let other : BoundTree = if bytes_eq name (codes "CPU") then b_cpu else named in
    chosen (bytes_eq name (codes "COMM")) e b_task other _ _ refl (chosen (bytes_eq name (codes "CPU")) e b_cpu named _ _ refl (same_field e (field_named name fields)))

mutual
  pub same_value : (fields : List Field) (e : EventData) (t : Tree) → bound_value e (bind_tree fields t) ≡ value_of (named_value fields e) t
  same_value fields e (number n) = refl
  same_value fields e (text bytes) = refl
  same_value fields e (field name) = same_name fields e name
  same_value fields e (prefix op t) = ap (prefixed op) (same_value fields e t)
  same_value fields e (chain t rest) = same_along fields e (bound_value e (bind_tree fields t)) rest ∙ ap (λ v. along (named_value fields e) v rest) (same_value fields e t)

  pub same_along : (fields : List Field) (e : EventData) (v : ValueData) (os : Operands) → bound_along e v (bind_row fields os) ≡ along (named_value fields e) v os
  same_along fields e v no_operands = refl
  same_along fields e v (operand op t rest) =
      same_along fields e (binary op v (bound_value e (bind_tree fields t))) rest ∙ ap (λ w. along (named_value fields e) (binary op v w) rest) (same_value fields e t)

-- a row that is bound grows at its end
abbrev pub added : BoundRow → BoundRow → BoundRow
added b_end qs = qs
added (b_more op t ps) qs = b_more op t (added ps qs)

added_none : (ps : BoundRow) → added ps b_end ≡ ps
added_none b_end = refl
added_none (b_more op t ps) = ap (b_more op t) (added_none ps)

added_more : (ps : BoundRow) (op : BinaryOp) (t : BoundTree) (qs : BoundRow) → added ps (b_more op t qs) ≡ added (added ps (b_more op t b_end)) qs
added_more b_end op t qs = refl
added_more (b_more o u ps) op t qs = ap (b_more o u) (added_more ps op t qs)

pub bound_pushed : (at : ℕ → Option Field) (os : List BoundOperand) (o : BoundOperand) → bound_row at (os ++ o ∷ []) ≡ added (bound_row at os) (b_more o.op (bound_of at o.value) b_end)
bound_pushed at [] o = refl
bound_pushed at (p ∷ os) o = ap (b_more p.op (bound_of at p.value)) (bound_pushed at os o)

pub row_ends : (ps : BoundRow) → added ps b_end ≡ ps
row_ends ps = added_none ps

pub row_next : (ps : BoundRow) (op : BinaryOp) (t : BoundTree) (qs : BoundRow) → added (added ps (b_more op t b_end)) qs ≡ added ps (b_more op t qs)
row_next ps op t qs = sym (added_more ps op t qs)

row_step : (fields : List Field) (rest : List FilterOperand) (i : ℕ) (o : FilterOperand) → i < length rest → get_or rest i o ≡ o
    → bind_row fields (operands_of (drop i rest)) ≡ b_more o.op (bind_tree fields (tree_of o.value)) (bind_row fields (operands_of (drop (suc i) rest)))
row_step fields [] i o lt e = absurd (omega arith)
row_step fields (p ∷ rest) zero o lt e = ap (λ (q : FilterOperand). b_more q.op (bind_tree fields (tree_of q.value)) (bind_row fields (operands_of rest))) e
row_step fields (p ∷ rest) (suc i) o lt e = row_step fields rest i o (omega arith) e

pub row_there : (fields : List Field) (rest : List FilterOperand) (i : ℕ) (o : FilterOperand) → i < length rest → get_or rest i o ≡ o
    → bind_row fields (operands_of (drop i rest)) ≡ b_more o.op (bind_tree fields (tree_of o.value)) (bind_row fields (operands_of (drop (i + 1) rest)))
row_there fields rest i o lt e =
    let same : suc i ≡ i + 1 = omega arith in
    row_step fields rest i o lt e ∙ ap (λ k. b_more o.op (bind_tree fields (tree_of o.value)) (bind_row fields (operands_of (drop k rest)))) same

pub row_past : (fields : List Field) (rest : List FilterOperand) (i : ℕ) → length rest ≤ i → bind_row fields (operands_of (drop i rest)) ≡ b_end
row_past fields [] zero le = refl
row_past fields [] (suc i) le = refl
row_past fields (p ∷ rest) zero le = absurd (omega arith)
row_past fields (p ∷ rest) (suc i) le = row_past fields rest i (omega arith)
