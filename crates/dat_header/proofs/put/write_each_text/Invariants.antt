use Rattle.std.proofs.Common.{take, Ok}
use Rattle.std.specs.List.{flat_map}
use Rattle.trace_outside.specs.declared.outside.Failed.{Failed}
use Rattle.dat_header.specs.Items.{sized}
use Rattle.dat_header.specs.Written.{Writes}
use Rattle.dat_header.proofs.put.write_each_text.Given as goal

abbrev pub invariant-loop-content : goal.invariant-loop-content
invariant-loop-content g l = Writes {E = Failed} (flat_map (sized 8 l.order) (take l.content-index l.texts)) g.O.Sink l.initial.out l.out (Ok tt)
