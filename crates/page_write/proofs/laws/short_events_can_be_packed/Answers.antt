use Rattle.trace_base.proofs.Layouts.{carried}
use Rattle.page_write.proofs.Packable.{few_packable}
use Rattle.page_write.proofs.laws.short_events_can_be_packed.Goals as goal

pub returns : goal.returns
returns c = λ layout time payload. few_packable layout time payload (carried layout)
