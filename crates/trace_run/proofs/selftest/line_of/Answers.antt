use Rattle.trace_args.specs.Command.{self_view}
use Rattle.trace_run.proofs.SelfTested.{line_is}
use Rattle.trace_run.proofs.selftest.line_of.Goals as goal

pub returns : goal.returns
returns g c =
    line_is (self_view c.args.words.now) _ _ _ c.summary_line.result c.new-report.ensures.empty c.in_ok-report_generated.ensures c.bytes.ensures c.summary_line.ensures
