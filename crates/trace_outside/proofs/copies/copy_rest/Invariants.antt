use Rattle.std.proofs.Common.{◌≤◌, ◌-◌}
use Rattle.trace_outside.specs.Causes.{raised}
use Rattle.trace_outside.specs.Keeping.{KeepsFile, KeepsSink}
use Rattle.trace_outside.specs.Copies.{Copied}
use Rattle.trace_outside.proofs.copies.copy_rest.Given as goal

abbrev pub invariant-loop-place : goal.invariant-loop-place
invariant-loop-place g l = record {
  above : l.at ≤ l.place;
  below : l.place ≤ g.F.File.size l.initial.file;
  copied : Copied (g.F.File.bytes l.initial.file) l.at (l.place - l.at) (g.O.Sink.written l.initial.out) (g.O.Sink.written l.out);
  reads : g.F.File.reads l.file ≤ raised (g.F.File.reads l.initial.file) (l.place - l.at);
  keeps : KeepsFile g.F.File l.initial.file l.file;
  keeps_out : KeepsSink g.O.Sink l.initial.out l.out;
}

abbrev pub decreases-loop-place : goal.decreases-loop-place
decreases-loop-place g l = l.size - l.place
