use Rattle.std.proofs.Common.{take}
use Rattle.report_print.specs.RawNames.{IsSetOf}
use Rattle.report_print.proofs.head.raw_names.Given as goal

abbrev pub invariant-loop-event : goal.invariant-loop-event
invariant-loop-event l = IsSetOf l.names.keys (λ name. name.now) (take l.event-index l.show.raw_events)
