use Rattle.std.proofs.Common.{ℕ, ◌+◌, ◌<◌, ◌≤◌, length, slice_index}
use Rattle.symbols.specs.Search.{keys_in}
use Rattle.symbols.proofs.search.last_among.Given as goal

abbrev pub invariant-loop-left : goal.invariant-loop-left
invariant-loop-left l = record {
  some : 0 < l.left;
  within : l.low + l.left ≤ length l.spots;
  first : slice_index (keys_in l.spots) l.low ≤ l.key;
  past : (k : ℕ) → l.low + l.left ≤ k → k < length l.spots → l.key < slice_index (keys_in l.spots) k;
}

abbrev pub decreases-loop-left : goal.decreases-loop-left
decreases-loop-left l = l.left
