use Rattle.std.proofs.Common.{◌≡◌, take}
use Rattle.symbols.specs.Search.{keys_in}
use Rattle.symbols.proofs.names.Names.keys.Given as goal

abbrev pub invariant-loop-spot : goal.invariant-loop-spot
invariant-loop-spot l = l.keys.items ≡ keys_in (take l.spot-index l.self.spots.items)
