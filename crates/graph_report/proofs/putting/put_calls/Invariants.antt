use Rattle.std.proofs.Common.{take, ◌≡◌, ◌≤◌, ◌++◌, Option, List, ℕ, length}
use Rattle.std.specs.List.{flat_map}
use Rattle.trace_outside.specs.Pending.{Holds}
use Rattle.graph_report.specs.CallText.{call_line}
use Rattle.graph_report.proofs.putting.put_calls.Given as goal

abbrev pub invariant-loop-call : goal.invariant-loop-call
invariant-loop-call g l = record {
  held : (before : Option (List ℕ)) (text : List ℕ) → Holds before (g.O.Sink.written l.initial.out) l.initial.pending text
      → Holds before (g.O.Sink.written l.out) l.pending (text ++ flat_map (call_line l.context) (take l.call-index l.calls));
  room : 65537 ≤ length l.buffer;
  name : g.O.Sink.name l.out ≡ g.O.Sink.name l.initial.out;
  faults : g.O.Sink.faults l.out ≡ g.O.Sink.faults l.initial.out;
}
