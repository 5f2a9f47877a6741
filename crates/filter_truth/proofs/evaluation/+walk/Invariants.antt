use Rattle.std.proofs.Common.{◌≡◌, drop}
use Rattle.filter_truth.specs.Bound.{bound_along}
use Rattle.filter_truth.specs.BoundView.{bound_row}
use Rattle.filter_truth.specs.Columns.{field_at}
use Rattle.filter_truth.specs.EventView.{event_of}
use Rattle.filter_truth.specs.ValueView.{data_of}
use Rattle.filter_truth.proofs.evaluation.+walk.Given as goal

abbrev pub invariant-along-loop-operand : goal.invariant-along-loop-operand
invariant-along-loop-operand l =
    bound_along (event_of l.fn.event) (data_of l.so_far) (bound_row (field_at l.fn.fields.columns.now l.fn.fields.format) (drop l.operand-index l.fn.rest))
    ≡ bound_along (event_of l.fn.event) (data_of l.fn.start) (bound_row (field_at l.fn.fields.columns.now l.fn.fields.format) l.fn.rest)
