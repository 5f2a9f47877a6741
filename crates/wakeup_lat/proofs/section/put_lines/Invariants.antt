use Rattle.std.proofs.Common.{take, ◌≡◌, length}
use Rattle.std.specs.List.{flat_map}
use Rattle.wakeup_lat.specs.Section.{pair_line}
use Rattle.trace_outside.proofs.Putting.{Put}
use Rattle.wakeup_lat.proofs.section.put_lines.Given as goal

abbrev pub invariant-loop-pair : goal.invariant-loop-pair
invariant-loop-pair g l = record {
  held : Put (flat_map (pair_line l.context) (take l.pair-index l.pairs)) (g.O.Sink.written l.initial.out) l.initial.pending (g.O.Sink.written l.out) l.pending;
  name : g.O.Sink.name l.out ≡ g.O.Sink.name l.initial.out;
  faults : g.O.Sink.faults l.out ≡ g.O.Sink.faults l.initial.out;
  long : length l.buffer ≡ length l.fn.buffer;
}
