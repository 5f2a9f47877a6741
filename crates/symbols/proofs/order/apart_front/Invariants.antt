use Rattle.std.proofs.Common.{◌≡◌, ◌++◌, None, drop, take}
use Rattle.symbols.specs.Spots.{first_spots}
use Rattle.symbols.proofs.order.apart_front.Given as goal

abbrev pub invariant-loop-i : goal.invariant-loop-i
invariant-loop-i l = take l.i l.spots ++ first_spots l.last (drop l.i l.spots) ≡ first_spots None l.spots
