use Rattle.std.proofs.Common.{List, ℕ}
use Rattle.std.specs.Iterator.{AlwaysYields}
use Rattle.trace_outside.specs.Pending.{on_way}
use Rattle.dump_tool.specs.Entries.{PutsEach}
use Rattle.dump_tool.proofs.EntriesPut.{Remains}
use Rattle.dump_tool.proofs.entries.put_each.Given as goal

abbrev pub invariant-loop-entry : goal.invariant-loop-entry
invariant-loop-entry g l =
    (text : g.row.I-Item.Denot → List ℕ) (texts : List (List ℕ)) → AlwaysYields g.I.Iterator.next_gives text l.fn.entries texts
    → PutsEach (on_way g.O.Sink.written g.O.Sink.name g.O.Sink.faults) (goal.F-post g l.put) text
    → Remains g.I.Iterator.next_gives text texts l.entry-iterator (on_way g.O.Sink.written g.O.Sink.name g.O.Sink.faults l.initial.out l.initial.pending) (on_way g.O.Sink.written g.O.Sink.name g.O.Sink.faults l.out l.pending)
