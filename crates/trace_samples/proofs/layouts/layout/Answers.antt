use Rattle.trace_base.specs.declared.order.Order.TheVariants.{Little}
use Rattle.trace_base.proofs.Layouts.{plain_same}
use Rattle.trace_samples.proofs.layouts.layout.Goals as goal

pub returns-clause-value : goal.returns-clause-value
returns-clause-value c = plain_same Little 8 4096 _ _ c.plain.ensures
