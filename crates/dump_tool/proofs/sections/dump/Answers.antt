use Rattle.trace_outside.proofs.Putting.{gained_from_nothing, stopped_from_nothing, stopped_at_flush}
use Rattle.dump_tool.proofs.sections.dump.Goals as goal

pub returns-in_err-put_chosen-clause-prefix : goal.returns-in_err-put_chosen-clause-prefix
returns-in_err-put_chosen-clause-prefix g c =
    stopped_from_nothing _ _ _ _ c.from_residual.result c.requires c.in_err-put_chosen.ensures.puts

pub returns-clause-gained : goal.returns-clause-gained
returns-clause-gained g c =
    gained_from_nothing _ _ _ _ _ _ _ c.flush.result c.requires c.in_ok-put_chosen.ensures.puts c.flush.ensures.flushes

pub returns-clause-prefix : goal.returns-clause-prefix
returns-clause-prefix g c =
    stopped_at_flush _ _ _ _ _ _ _ c.flush.result c.requires c.in_ok-put_chosen.ensures.puts c.flush.ensures.flushes
