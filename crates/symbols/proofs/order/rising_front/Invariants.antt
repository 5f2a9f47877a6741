use Rattle.std.proofs.Common.{ℕ, ◌<◌, ◌≤◌, get_or}
use Rattle.symbols.specs.declared.names.Spot.{Spot}
use Rattle.symbols.specs.Spots.{RiseUpTo}
use Rattle.symbols.proofs.order.rising_front.Given as goal

abbrev pub invariant-loop-i : goal.invariant-loop-i
invariant-loop-i l = record {
  below : (k : ℕ) (d : Spot) → k < l.i → (get_or l.spots k d).key ≤ l.last;
  rises : RiseUpTo l.spots l.i;
}
