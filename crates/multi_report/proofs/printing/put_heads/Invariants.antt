use Rattle.std.proofs.Common.{take, ◌≡◌, ◌++◌, Option, List, ℕ}
use Rattle.std.specs.List.{flat_map}
use Rattle.trace_outside.specs.Pending.{Holds}
use Rattle.multi_report.specs.Reports.{head_line}
use Rattle.multi_report.specs.Sources.{shown_of, seen}
use Rattle.multi_report.proofs.printing.put_heads.Given as goal

abbrev pub invariant-loop-source : goal.invariant-loop-source
invariant-loop-source g l = record {
  held : (before : Option (List ℕ)) (text : List ℕ) → Holds before (g.O.Sink.written l.fn.out) l.fn.pending text
      → Holds before (g.O.Sink.written l.out) l.pending (text ++ flat_map (λ source. head_line (shown_of (seen g.F.File g.L.LineFormat.text source))) (take l.source-index l.sources));
  name : g.O.Sink.name l.out ≡ g.O.Sink.name l.fn.out;
  faults : g.O.Sink.faults l.out ≡ g.O.Sink.faults l.fn.out;
}
