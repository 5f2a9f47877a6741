use Rattle.std.proofs.Common.{rules, ◌≡◌, ◌+◌, ◌<◌, ◌≤◌, ◌∙◌, ℕ, Option, length, drop, get_or, sym, ap, ap₂}
use Rattle.trace_base.specs.declared.field.Field.{Field}
use Rattle.filter_lang.specs.TreeView.{tree_of, operands_of}
use Rattle.filter_lang.specs.declared.expr.FilterExpr.{the_lemmas}
use Rattle.filter_lang.proofs.Views.{operands_of_row}
use Rattle.filter_truth.specs.Bound.{b_chain, b_end, b_more, bind_tree, bind_row}
use Rattle.filter_truth.specs.BoundView.{bound_of, bound_row}
use Rattle.filter_truth.specs.Columns.{numbered}
use Rattle.filter_truth.proofs.BoundRows.{added, bound_pushed, row_next, row_ends, row_there, row_past}
use Rattle.filter_truth.proofs.binding.+binder.Goals as goal

pub bind_expr-returns-in_ok-boxed-in-Chain-clause-bound : goal.bind_expr-returns-in_ok-boxed-in-Chain-clause-bound
bind_expr-returns-in_ok-boxed-in-Chain-clause-bound t c = λ fields later kept.
    let first = c.in_ok-start-in-Chain.ensures.bound fields later (λ number name there. kept number name (c.in_ok-row-in-Chain.ensures.kept number name there)) in
    let row = c.in_ok-row-in-Chain.ensures.bound fields later kept in
    search (rules, the_lemmas, operands_of_row)

pub bind_operands-loop-operand-preserved : goal.bind_operands-loop-operand-preserved
bind_operands-loop-operand-preserved t c = record {
  kept = λ number name there. c.in_ok-value.ensures.kept number name (c.loop-operand.invariant.kept number name there);
  bound = λ fields later kept.
      let l = c.loop-operand in
      let at : ℕ → Option Field = numbered fields later in
      let rest = c.args.rest.now in
      let o = c.operand-item.result in
      let B = bound_row at l.bound.items in
      let v = bound_of at c.in_ok-value.value in
      let R = bind_row fields (operands_of (drop (l.operand-index + 1) rest)) in
      let inside : l.operand-index < length rest = search rules in
      let there : get_or rest l.operand-index o ≡ o = search rules in
      let more : bound_row at c.push.new.self.items ≡ added B (b_more o.op v b_end) = search (rules, bound_pushed) in
      ap (λ zs. added zs R) more ∙ row_next B o.op v R ∙ ap (λ u. added B (b_more o.op u R)) (c.in_ok-value.ensures.bound fields later kept)
      ∙ ap (added B) (sym (row_there fields rest l.operand-index o inside there))
      ∙ l.invariant.bound fields later (λ number name h. kept number name (c.in_ok-value.ensures.kept number name h));
}

pub bind_operands-returns-clause-bound : goal.bind_operands-returns-clause-bound
bind_operands-returns-clause-bound t c = λ fields later kept.
    let l = c.loop-operand in
    let rest = c.args.rest.now in
    let B = bound_row (numbered fields later) l.bound.items in
    let past : length rest ≤ l.operand-index = search rules in
    sym (row_ends B) ∙ ap (added B) (sym (row_past fields rest l.operand-index past)) ∙ l.invariant.bound fields later kept
