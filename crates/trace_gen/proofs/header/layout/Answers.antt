use Rattle.trace_base.specs.declared.order.Order.TheVariants.{Little}
use Rattle.trace_base.proofs.Layouts.{plain_same}
use Rattle.trace_gen.proofs.header.layout.Goals as goal

pub returns : goal.returns
returns c = plain_same Little 8 4096 _ _ c.plain.ensures
