use Rattle.std.proofs.Common.{List, length, ◌++◌, ◌≡◌}
use Rattle.trace_base.specs.declared.part.Part.{Part}
use Rattle.trace_outside.specs.Writing.{Gained}
use Rattle.dat_options.specs.Table.{table_text}
use Rattle.dat_options.proofs.table.write_table.Given as goal

abbrev pub invariant-loop-rest : goal.invariant-loop-rest
invariant-loop-rest g l = record {
  done : List Part;
  parted : l.parts ≡ done ++ l.rest;
  gained : Gained (g.O.Sink.written l.initial.out) (g.O.Sink.written l.out) (table_text l.order done);
  name : g.O.Sink.name l.out ≡ g.O.Sink.name l.initial.out;
  faults : g.O.Sink.faults l.out ≡ g.O.Sink.faults l.initial.out;
}

abbrev pub decreases-loop-rest : goal.decreases-loop-rest
decreases-loop-rest g l = length l.rest
