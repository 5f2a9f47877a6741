use Rattle.std.proofs.Common.{take, ◌≡◌}
use Rattle.std.specs.List.{flat_map}
use Rattle.trace_outside.specs.Writing.{Gained}
use Rattle.dat_options.specs.Options.{option_text}
use Rattle.dat_options.proofs.options.write_options.Given as goal

abbrev pub invariant-loop-option : goal.invariant-loop-option
invariant-loop-option g l = record {
  gained : Gained (g.O.Sink.written l.initial.out) (g.O.Sink.written l.out) (flat_map (option_text l.order) (take l.option-index l.options));
  name : g.O.Sink.name l.out ≡ g.O.Sink.name l.initial.out;
  faults : g.O.Sink.faults l.out ≡ g.O.Sink.faults l.initial.out;
}
