use Rattle.std.proofs.Common.{◌+◌, ◌*◌, max}
use denote.Param.Weighed.{most}
use Rattle.fmt_expr.proofs.expr.Expr.TheLaws as exprs
use Rattle.fmt_expr.proofs.expr.Operand.TheLaws as operands
use Rattle.fmt_expr.proofs.expr.Entry.TheLaws as entries
use Rattle.fmt_fold.proofs.Runs.{OperandsTo, EntriesTo}
use Rattle.fmt_fold.proofs.fold.+fold.Given as goal

abbrev pub invariant-folded_operands-loop-operand : goal.invariant-folded_operands-loop-operand
invariant-folded_operands-loop-operand l = OperandsTo l.made.items l.fn.rest l.operand-index

abbrev pub invariant-folded_entries-loop-entry : goal.invariant-folded_entries-loop-entry
invariant-folded_entries-loop-entry l = EntriesTo l.made.items l.fn.entries l.entry-index

abbrev pub decreases-folded_tree : goal.decreases-folded_tree
decreases-folded_tree l = 4 * exprs.the_size l.expr.now

abbrev pub decreases-boxed : goal.decreases-boxed
decreases-boxed l = 4 * exprs.the_size l.expr.now + 1

abbrev pub decreases-folded_operands : goal.decreases-folded_operands
decreases-folded_operands l = 4 * most operands.the_size l.rest.now + 1

abbrev pub decreases-folded_entries : goal.decreases-folded_entries
decreases-folded_entries l = 4 * most entries.the_size l.entries.now + 1

abbrev pub decreases-folded_element : goal.decreases-folded_element
decreases-folded_element l = 4 * exprs.the_size l.index.now + 2

abbrev pub decreases-folded_prefix : goal.decreases-folded_prefix
decreases-folded_prefix l = 4 * exprs.the_size l.of.now + 2

abbrev pub decreases-folded_cast : goal.decreases-folded_cast
decreases-folded_cast l = 4 * exprs.the_size l.of.now + 2

abbrev pub decreases-folded_chain : goal.decreases-folded_chain
decreases-folded_chain l = 4 * max (exprs.the_size l.first.now) (most operands.the_size l.rest.now) + 2

abbrev pub decreases-folded_choice : goal.decreases-folded_choice
decreases-folded_choice l = 4 * max (exprs.the_size l.test.now) (max (exprs.the_size l.yes.now) (exprs.the_size l.no.now)) + 2

abbrev pub decreases-folded_flags : goal.decreases-folded_flags
decreases-folded_flags l = 4 * max (exprs.the_size l.value.now) (most entries.the_size l.entries.now) + 2

abbrev pub decreases-folded_symbolic : goal.decreases-folded_symbolic
decreases-folded_symbolic l = 4 * max (exprs.the_size l.value.now) (most entries.the_size l.entries.now) + 2

abbrev pub decreases-folded_hex : goal.decreases-folded_hex
decreases-folded_hex l = 4 * max (exprs.the_size l.bytes.now) (exprs.the_size l.count.now) + 2

abbrev pub decreases-folded_array : goal.decreases-folded_array
decreases-folded_array l = 4 * max (exprs.the_size l.bytes.now) (max (exprs.the_size l.count.now) (exprs.the_size l.size.now)) + 2
