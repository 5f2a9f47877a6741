use Rattle.std.proofs.Common.{take, ◌≡◌, ◌++◌, Option, List, ℕ}
use Rattle.std.specs.List.{flat_map}
use Rattle.trace_outside.specs.Pending.{Holds}
use Rattle.trace_outside.proofs.pending.Pending.put_parts.Given as goal

abbrev pub invariant-loop-part : goal.invariant-loop-part
invariant-loop-part g l = record {
  held : (before : Option (List ℕ)) (text : List ℕ) → Holds before (g.O.Sink.written l.initial.out) l.initial.self text
      → Holds before (g.O.Sink.written l.out) l.self (text ++ flat_map (λ part. part.now) (take l.part-index l.parts));
  name : g.O.Sink.name l.out ≡ g.O.Sink.name l.initial.out;
  faults : g.O.Sink.faults l.out ≡ g.O.Sink.faults l.initial.out;
}
