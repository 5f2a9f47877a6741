use Rattle.std.proofs.Common.{take, ◌≡◌}
use Rattle.std.specs.List.{flat_map}
use Rattle.trace_outside.specs.Writing.{Gained}
use Rattle.trace_outside.proofs.whole.write_parts.Given as goal

abbrev pub invariant-loop-part : goal.invariant-loop-part
invariant-loop-part g l = record {
  gained : Gained (g.O.Sink.written l.initial.out) (g.O.Sink.written l.out) (flat_map (λ part. part.now) (take l.part-index l.parts));
  name : g.O.Sink.name l.out ≡ g.O.Sink.name l.initial.out;
  faults : g.O.Sink.faults l.out ≡ g.O.Sink.faults l.initial.out;
}
