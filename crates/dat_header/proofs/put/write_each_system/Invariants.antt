use Rattle.std.proofs.Common.{take, Ok}
use Rattle.std.specs.List.{flat_map}
use Rattle.trace_outside.specs.declared.outside.Failed.{Failed}
use Rattle.dat_header.specs.Items.{system_text}
use Rattle.dat_header.specs.Written.{Writes}
use Rattle.dat_header.proofs.put.write_each_system.Given as goal

abbrev pub invariant-loop-system : goal.invariant-loop-system
invariant-loop-system g l = Writes {E = Failed} (flat_map (system_text l.order) (take l.system-index l.systems)) g.O.Sink l.initial.out l.out (Ok tt)
