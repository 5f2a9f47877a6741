use Rattle.std.proofs.Common.{◌≡◌, length, take}
use Rattle.std.specs.List.{flat_map}
use Rattle.trace_base.specs.declared.order.Order.{Order}
use Rattle.dat_header.specs.Items.{sized}
use Rattle.dat_header.proofs.Wrapped.{wrapped}
use Rattle.dat_header.proofs.lengths.formats_len.Given as goal

abbrev pub invariant-loop-content : goal.invariant-loop-content
invariant-loop-content l = (order : Order) → l.total ≡ wrapped (length (flat_map (sized 8 order) (take l.content-index l.texts)))
