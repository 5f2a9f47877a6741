use Rattle.std.proofs.Common.{◌≡◌, ℕ, ◌≤◌, List, ◌++◌, Option}
use Rattle.trace_outside.specs.Pending.{Holds}
use Rattle.round_print.specs.Prints.{filled_text, front_of, last_of}
use Rattle.round_print.proofs.filling.put_each.Given as goal

abbrev pub invariant-loop-at : goal.invariant-loop-at
invariant-loop-at g l = record {
  inside : l.at ≤ l.count;
  held : (before : Option (List ℕ)) (text : List ℕ) → Holds before (g.O.Sink.written l.fn.out) l.fn.pending text
      → Holds before (g.O.Sink.written l.out) l.pending (text ++ filled_text l.fn.last (front_of l.at l.lane));
  last : l.last ≡ last_of l.fn.last (front_of l.at l.lane);
  name : g.O.Sink.name l.out ≡ g.O.Sink.name l.fn.out;
  faults : g.O.Sink.faults l.out ≡ g.O.Sink.faults l.fn.out;
}
