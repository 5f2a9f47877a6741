use Rattle.std.proofs.Common.{◌≡◌, List, ℕ, drop}
use Rattle.trace_base.specs.declared.field.Field.{Field}
use Rattle.filter_lang.specs.TreeView.{operands_of}
use Rattle.filter_truth.specs.Bound.{bind_row}
use Rattle.filter_truth.specs.BoundView.{bound_row}
use Rattle.filter_truth.specs.Columns.{numbered}
use Rattle.filter_truth.specs.Numbers.{Keeps}
use Rattle.filter_truth.proofs.BoundRows.{added}
use Rattle.filter_truth.proofs.binding.+binder.Given as goal

abbrev pub invariant-bind_operands-loop-operand : goal.invariant-bind_operands-loop-operand
invariant-bind_operands-loop-operand l = record {
  kept : Keeps l.fn.numbers l.numbers;
  bound : (fields : List Field) (later : List (List ℕ)) → Keeps l.numbers later
      → added (bound_row (numbered fields later) l.bound.items) (bind_row fields (operands_of (drop l.operand-index l.fn.rest))) ≡ bind_row fields (operands_of l.fn.rest);
}
