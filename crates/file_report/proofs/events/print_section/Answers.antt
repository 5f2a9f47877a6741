use Rattle.std.proofs.Common.{rules}
use Rattle.file_report.proofs.Flushed.{flushed_text, stopped_text}
use Rattle.file_report.proofs.events.print_section.Goals as goal

pub returns-in_err-put_wakeups : goal.returns-in_err-put_wakeups
returns-in_err-put_wakeups g c =
    stopped_text _ _ _ _ c.from_residual.result c.requires.empty c.from_residual.ensures.0 c.in_err-put_wakeups.ensures.puts (search rules)

pub returns : goal.returns
returns g c =
    flushed_text _ _ _ _ _ _ _ c.flush.result c.requires.empty c.in_ok-put_wakeups.ensures.puts c.flush.ensures.flushes (search rules)
