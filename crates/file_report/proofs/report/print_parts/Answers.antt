use Rattle.trace_args.specs.Command.{report_view}
use Rattle.file_report.proofs.Reports.{context_reported, not_begun}
use Rattle.file_report.proofs.report.print_parts.Goals as goal

pub returns-in_default : goal.returns-in_default
returns-in_default g c = not_begun _ _ _

pub returns : goal.returns
returns g c =
    context_reported (report_view c.args.words.now) c.args.header _ c.print_shown-status.result _ c.args.parts.now _ _ c.in-Ok.ensures c.print_shown-status.ensures
