use Rattle.std.proofs.Common.{rules, refl, ◌∙◌}
use Rattle.fmt_expr.specs.declared.expr.Expr.{the_lemmas}
use Rattle.fmt_expr.proofs.Views.{operands_of_row, entries_of_row}
use Rattle.fmt_fold.proofs.Folds as folds
use Rattle.fmt_fold.proofs.Runs.{operands_more, entries_more}
use Rattle.fmt_fold.proofs.fold.+fold.Goals as goal

pub folded_operands-loop-operand-preserved : goal.folded_operands-loop-operand-preserved
folded_operands-loop-operand-preserved t c =
    rw c.in_ok-push.ensures.items (operands_more c.loop-operand.made.items c.args.rest.now c.loop-operand.operand-index _ c.operand-item.result c.loop-operand-test.true c.operand-item.is refl c.in_ok-value.ensures c.loop-operand.invariant)

pub folded_entries-loop-entry-preserved : goal.folded_entries-loop-entry-preserved
folded_entries-loop-entry-preserved t c =
    rw c.in_ok-push.ensures.items (entries_more c.loop-entry.made.items c.args.entries.now c.loop-entry.entry-index _ c.entry-item.result c.loop-entry-test.true c.entry-item.is (c.in_ok-text.ensures ∙ c.as_bytes.ensures) c.in_ok-value.ensures c.loop-entry.invariant)

pub folded_prefix-returns : goal.folded_prefix-returns
folded_prefix-returns t c = folds.folded_prefix _ _ _ _ c.settled.ensures c.in_ok-of.ensures

pub folded_cast-returns : goal.folded_cast-returns
folded_cast-returns t c = folds.folded_cast _ _ _ _ c.settled.ensures c.in_ok-of.ensures

pub folded_chain-returns : goal.folded_chain-returns
folded_chain-returns t c =
    folds.folded_chain _ _ _ _ c.in_ok-rest.rest.items c.args.rest.now c.settled.ensures c.chained.ensures c.in_ok-first.ensures c.in_ok-rest.ensures

pub folded_choice-returns : goal.folded_choice-returns
folded_choice-returns t c =
    folds.folded_choice _ _ _ _ _ _ _ c.settled.ensures c.in_ok-test.ensures c.in_ok-yes.ensures c.in_ok-no.ensures

pub folded_tree-returns-in-Chain : goal.folded_tree-returns-in-Chain
folded_tree-returns-in-Chain t c = search (rules, the_lemmas, operands_of_row)

pub folded_tree-returns-in-Flags : goal.folded_tree-returns-in-Flags
folded_tree-returns-in-Flags t c = search (rules, the_lemmas, entries_of_row)

pub folded_tree-returns-in-Symbolic : goal.folded_tree-returns-in-Symbolic
folded_tree-returns-in-Symbolic t c = search (rules, the_lemmas, entries_of_row)
