use Rattle.std.proofs.Common.{◌≡◌, ◌≤◌, ◌-◌, length}
use Rattle.page_pool.specs.Moved.{AllUnmoved}
use Rattle.time_merge.specs.Horizons.{high_of}
use Rattle.time_merge.specs.LaneRows.{IsReady}
use Rattle.round_print.specs.Prints.{head_kept}
use Rattle.report_rounds.specs.Between.{HasSlots}
use Rattle.report_rounds.proofs.Settling.{ReadyUnmarked, TellsSoFar}
use Rattle.report_rounds.proofs.settle.settle.Given as goal

abbrev pub invariant-loop-i : goal.invariant-loop-i
invariant-loop-i l = record {
  within : l.from ≤ length l.work.moved.items;
  slots : HasSlots l.lanes l.work;
  ready : AllUnmoved IsReady l.work.moved.items l.lanes;
  unmarked : ReadyUnmarked IsReady l.work.moved.items l.lanes l.from;
  heads : TellsSoFar head_kept l.work.moved.items l.work.heads l.lanes l.from;
  highs : TellsSoFar high_of l.work.moved.items l.work.highs l.lanes l.from;
  pending : l.work.pending ≡ l.fn.work.pending;
}

abbrev pub decreases-loop-i : goal.decreases-loop-i
decreases-loop-i l = length l.work.moved.items - l.from
