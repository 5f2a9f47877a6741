use Rattle.std.proofs.Common.{◌∙◌}
use Rattle.trace_base.specs.TailView.{held}
use Rattle.report_print.proofs.FrontLemmas.{front_room, front_put, time_ends}
use Rattle.report_print.proofs.fronts.put_columns.Goals as goal

pub overflow_sub-result : goal.overflow_sub-result
overflow_sub-result c = front_room c.args.context.now c.args.cpu c.args.time c.args.common.now c.args.behind.now c.put_any-len.result c.put_any-len.ensures.len

pub returns-clause-value : goal.returns-clause-value
returns-clause-value c = c.put_any-len.ensures.value ∙ front_put c.args.context.now c.args.cpu c.args.time c.args.common.now c.args.behind.now (held c.args.into.now)

pub returns-clause-until : goal.returns-clause-until
returns-clause-until c = time_ends c.args.context.now c.args.cpu c.args.time c.args.common.now c.args.behind.now c.put_any-len.result c.put_any-len.ensures.len
