use Rattle.std.proofs.Common.{◌≡◌, ◌≤◌, ◌++◌, None, drop, take}
use Rattle.symbols.specs.Spots.{first_spots}
use Rattle.symbols.proofs.order.move_firsts.Given as goal

abbrev pub invariant-loop-i : goal.invariant-loop-i
invariant-loop-i l = record {
  within : l.kept ≤ l.i;
  rest : drop l.i l.spots ≡ drop l.i l.fn.spots;
  front : take l.kept l.spots ++ first_spots l.last (drop l.i l.fn.spots) ≡ first_spots None l.fn.spots;
}
