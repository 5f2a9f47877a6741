use Rattle.std.proofs.Common.{◌-◌, ◌<◌, ◌≤◌, ℕ, length, slice_index_or}
use Rattle.page_pool.specs.Lines.{Line}
use Rattle.round_print.proofs.heads.front_up_to.Given as goal

abbrev pub invariant-loop-count : goal.invariant-loop-count
invariant-loop-count l = record {
  kept : l.count ≤ length l.region.kept;
  early : (i : ℕ) (d : Line) → i < l.count → (slice_index_or l.region.kept i d).key ≤ l.most;
}

abbrev pub decreases-loop-count : goal.decreases-loop-count
decreases-loop-count l = length l.region.kept - l.count
