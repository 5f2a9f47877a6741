use Rattle.std.proofs.Common.{◌≡◌, ℕ, ◌<◌, List, ◌++◌, length, map}
use Rattle.std.specs.Prelude.{slice_index_or}
use Rattle.trace_outside.specs.Pending.{Holds}
use Rattle.page_pool.specs.declared.lane.Lane.{Lane}
use Rattle.page_pool.specs.Moved.{KeepsUnmoved}
use Rattle.time_merge.specs.LaneRows.{parts_of}
use Rattle.round_print.specs.Prints.{filled, head_kept, last_of, printed, text_of}
use Rattle.round_print.specs.Rounds.{AreRising, IsPrinting, KeepsMarks, MarksPrinted}
use Rattle.round_print.proofs.MovedLanes.{KeepNoMore}
use Rattle.round_print.proofs.rounds.print_round.Given as goal

abbrev pub invariant-loop-i : goal.invariant-loop-i
invariant-loop-i g l = record {
  text : (done : List ℕ) × ((done ++ text_of (filled l.last (printed l.horizon l.lanes)) ≡ text_of (filled l.fn.last (printed l.horizon l.fn.lanes))) × Holds (g.O.Sink.written l.fn.out) (g.O.Sink.written l.out) l.pending done);
  last : last_of l.last (printed l.horizon l.lanes) ≡ last_of l.fn.last (printed l.horizon l.fn.lanes);
  name : g.O.Sink.name l.out ≡ g.O.Sink.name l.fn.out;
  faults : g.O.Sink.faults l.out ≡ g.O.Sink.faults l.fn.out;
  parts : parts_of l.lanes ≡ parts_of l.fn.lanes;
  layouts : map (λ (lane : Lane). lane.layout) l.lanes ≡ map (λ (lane : Lane). lane.layout) l.fn.lanes;
  rising : AreRising l.lanes;
  heads : l.heads ≡ map head_kept l.lanes;
  slots : length l.heads ≡ length l.fn.heads;
  unmoved : KeepsUnmoved l.moved l.fn.lanes l.lanes;
  marked : KeepsMarks l.fn.moved l.moved;
  anew : MarksPrinted l.fn.lanes l.lanes l.fn.moved l.moved;
  fewer : KeepNoMore l.fn.lanes l.lanes;
  lanes : (i : ℕ) → (d : Lane) → i < length l.fn.lanes → IsPrinting l.horizon (slice_index_or l.fn.lanes i d) (slice_index_or l.lanes i d);
}

abbrev pub decreases-loop-i : goal.decreases-loop-i
decreases-loop-i g l = length (printed l.horizon l.lanes)
