use Rattle.trace_base.proofs.Layouts.{plain_allowed}
use Rattle.trace_base.proofs.layout.Layout.plain.Goals as goal

pub invariant_of-result : goal.invariant_of-result
invariant_of-result c = record { allowed = plain_allowed c.args.long c.args.page c.requires.long c.requires.page_least c.requires.page_most }
