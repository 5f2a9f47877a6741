use Rattle.std.proofs.Common.{ℕ, ◌<◌, ◌≤◌, get_or}
use Rattle.symbols.specs.declared.names.Spot.{Spot}
use Rattle.symbols.proofs.order.least_from.Given as goal

abbrev pub invariant-loop-i : goal.invariant-loop-i
invariant-loop-i l = (k : ℕ) (d : Spot) → l.from ≤ k → k < l.i → l.least ≤ (get_or l.spots k d).key
