use Rattle.std.specs.Prelude.{ℕ, List}
use Rattle.trace_base.specs.declared.rec.Rec.{Rec}
use Rattle.filter_truth.specs.Naming.{EventData}
use Rattle.filter_truth.specs.declared.evaluation.Event.{Event}

abbrev pub event_of : Event → EventData
event_of e = record { order = e.rec.order; payload = e.rec.payload.now; task = e.comm.now; cpu = e.cpu }

abbrev pub event_with : Rec → List ℕ → ℕ → EventData
event_with rec task cpu = record { order = rec.order; payload = rec.payload.now; task = task; cpu = cpu }
