use Rattle.std.proofs.Common.{◌∙◌}
use Rattle.trace_base.specs.TailView.{held}
use Rattle.report_print.specs.Line.{prefix_text}
use Rattle.report_print.proofs.HeldPuts.{put_end}
use Rattle.report_print.proofs.fronts.prefix.Goals as goal

pub returns-clause-value : goal.returns-clause-value
returns-clause-value c =
    c.put_columns.ensures.value ∙ put_end (held c.args.into.now) (prefix_text c.args.context.now c.args.cpu c.args.time c.args.common.now)
