use Rattle.std.proofs.Common.{◌*◌, ◌<◌, ◌≤◌}
use Rattle.tournament_tree.proofs.Beside.{IsLeastBelow}
use Rattle.tournament_tree.proofs.trees.least_but.Given as goal

abbrev pub invariant-loop-at : goal.invariant-loop-at
invariant-loop-at l = record {
  some : 1 ≤ l.at;
  inside : l.at < 2 * l.slots;
  below : IsLeastBelow l.slots l.nodes l.place l.at l.least;
}

abbrev pub decreases-loop-at : goal.decreases-loop-at
decreases-loop-at l = l.at
