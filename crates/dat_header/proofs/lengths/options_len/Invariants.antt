use Rattle.std.proofs.Common.{◌≡◌, length, take}
use Rattle.std.specs.List.{flat_map}
use Rattle.trace_base.specs.declared.order.Order.{Order}
use Rattle.dat_options.specs.Options.{option_text}
use Rattle.dat_header.proofs.Wrapped.{wrapped}
use Rattle.dat_header.proofs.lengths.options_len.Given as goal

abbrev pub invariant-loop-option : goal.invariant-loop-option
invariant-loop-option l = (order : Order) → l.total ≡ wrapped (length (flat_map (option_text order) (take l.option-index l.options)))
