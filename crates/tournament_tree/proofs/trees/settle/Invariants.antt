use Rattle.std.proofs.Common.{◌≡◌, ℕ, ◌<◌, ◌≤◌}
use Rattle.tournament_tree.specs.Nodes.{AllBut, node}
use Rattle.tournament_tree.proofs.trees.settle.Given as goal

abbrev pub invariant-loop-at : goal.invariant-loop-at
invariant-loop-at l = record {
  inside : l.at < l.slots;
  but : AllBut l.slots l.nodes l.at;
  leaves : (i : ℕ) → l.slots ≤ i → node l.nodes i ≡ node l.fn.nodes i;
}

abbrev pub decreases-loop-at : goal.decreases-loop-at
decreases-loop-at l = l.at
