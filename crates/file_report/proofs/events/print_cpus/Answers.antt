use Rattle.std.proofs.Common.{rules}
use Rattle.file_report.proofs.Flushed.{flushed_text, stopped_text}
use Rattle.file_report.proofs.events.print_cpus.Goals as goal

pub returns-in_err-put_cpus-clause-writes : goal.returns-in_err-put_cpus-clause-writes
returns-in_err-put_cpus-clause-writes g c =
    stopped_text _ _ _ _ c.from_residual.result c.requires c.from_residual.ensures.0 c.in_err-put_cpus.ensures.puts (search rules)

pub returns-clause-writes : goal.returns-clause-writes
returns-clause-writes g c =
    flushed_text _ _ _ _ _ _ _ c.flush.result c.requires c.in_ok-put_cpus.ensures.puts c.flush.ensures.flushes (search rules)
