use Rattle.trace_base.proofs.FieldLines.{when_found, when_none}
use Rattle.trace_base.proofs.field_line.read_field_line.Goals as goal

pub returns-clause-found : goal.returns-clause-found
returns-clause-found c = when_found c.args.line.now c.line_of.result c.line_of.ensures

pub returns-clause-none : goal.returns-clause-none
returns-clause-none c = when_none c.args.line.now c.line_of.result c.line_of.ensures
