use Rattle.std.proofs.Common.{ℕ, ◌<◌, ◌≤◌, get_or}
use Rattle.std.specs.Option.{IfSome}
use Rattle.page_pool.specs.declared.lane.Lane.{Lane}
use Rattle.split_passes.specs.Rounds.{ReachesPast}
use Rattle.split_passes.specs.Takings.{HasRun}
use Rattle.split_passes.proofs.horizon.horizon.Given as goal

abbrev pub invariant-loop-i : goal.invariant-loop-i
invariant-loop-i l = record {
  up_to : l.least.until ≤ l.until;
  first : (d : Lane) → ReachesPast l.least.until l.most (get_or l.lanes l.first d);
  before : (j : ℕ) (d : Lane) → j < l.i → ReachesPast l.least.until l.most (get_or l.lanes j d);
  run : (d : Lane) → IfSome l.least.run (HasRun (get_or l.lanes l.least.lane d));
}
