use Rattle.std.proofs.Common.{◌≡◌, ◌-◌, ◌<◌, ◌≤◌, ℕ, length, slice_index_or}
use Rattle.page_pool.specs.Moved.{KeepsUnmoved}
use Rattle.page_pool.specs.declared.lane.Lane.{Lane}
use Rattle.cpu_workers.specs.Formats.{IsFormatted}
use Rattle.cpu_workers.proofs.workers.format_in_turn.Given as goal

abbrev pub invariant-loop-i : goal.invariant-loop-i
invariant-loop-i g l = record {
  within : l.from ≤ length l.moved;
  count : length l.lanes ≡ length l.fn.lanes;
  done : (k : ℕ) (d : Lane) → k < l.from → IsFormatted (g.L.LineFormat.text l.form) (slice_index_or l.fn.lanes k d) (slice_index_or l.lanes k d);
  rest : (k : ℕ) (d : Lane) → l.from ≤ k → slice_index_or l.lanes k d ≡ slice_index_or l.fn.lanes k d;
  kept : KeepsUnmoved l.moved l.fn.lanes l.lanes;
}

abbrev pub decreases-loop-i : goal.decreases-loop-i
decreases-loop-i g l = length l.moved - l.from
