use Rattle.std.proofs.Common.{take, ◌≡◌}
use Rattle.std.specs.List.{flat_map}
use Rattle.report_lists.specs.Lists.{format_lines}
use Rattle.trace_outside.proofs.Putting.{Put}
use Rattle.report_lists.proofs.events.put_event_formats.Given as goal

abbrev pub invariant-loop-i : goal.invariant-loop-i
invariant-loop-i g l = record {
  held : Put (flat_map format_lines (take l.i l.formats)) (g.O.Sink.written l.initial.out) l.initial.pending (g.O.Sink.written l.out) l.pending;
  name : g.O.Sink.name l.out ≡ g.O.Sink.name l.initial.out;
  faults : g.O.Sink.faults l.out ≡ g.O.Sink.faults l.initial.out;
}
