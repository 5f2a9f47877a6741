use Rattle.std.proofs.Common.{◌≡◌, length, take}
use Rattle.std.specs.List.{flat_map}
use Rattle.trace_base.specs.declared.order.Order.{Order}
use Rattle.dat_header.specs.Items.{system_text}
use Rattle.dat_header.proofs.Wrapped.{wrapped}
use Rattle.dat_header.proofs.lengths.systems_len.Given as goal

abbrev pub invariant-loop-system : goal.invariant-loop-system
invariant-loop-system l = (order : Order) → l.total ≡ wrapped (length (flat_map (system_text order) (take l.system-index l.systems)))
