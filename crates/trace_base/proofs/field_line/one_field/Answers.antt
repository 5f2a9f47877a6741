use Rattle.trace_base.proofs.FieldLines.{one_field}
use Rattle.trace_base.proofs.field_line.one_field.Goals as goal

pub returns : goal.returns
returns c = one_field
