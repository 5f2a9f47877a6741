use Rattle.std.proofs.Common.{◌≡◌, ◌+◌, ◌*◌}
use Rattle.trace_outside.specs.Writing.{Gained}
use Rattle.new_files.specs.Padding.{zeros}
use Rattle.new_files.proofs.padding.write_zeros.Given as goal

abbrev pub invariant-loop : goal.invariant-loop
invariant-loop g l = record {
  gained : Gained (g.O.Sink.written l.fn.out) (g.O.Sink.written l.out) (zeros (l.rest + l.counter * 4096));
  name : g.O.Sink.name l.out ≡ g.O.Sink.name l.fn.out;
  faults : g.O.Sink.faults l.out ≡ g.O.Sink.faults l.fn.out;
}
