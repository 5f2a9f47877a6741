use Rattle.std.proofs.Common.{length, ◌-◌, ◌≡◌, ◌≤◌}
use Rattle.trace_outside.specs.Causes.{raised}
use Rattle.trace_outside.specs.Reading.{GivesBytesAt}
use Rattle.trace_outside.specs.Keeping.{KeepsFile}
use Rattle.trace_outside.proofs.whole.read_all.Given as goal

abbrev pub invariant-loop-done : goal.invariant-loop-done
invariant-loop-done g l = record {
  within : l.done ≤ length l.initial.into;
  given : GivesBytesAt (g.I.File.bytes l.initial.file) l.at l.done l.into;
  reads : g.I.File.reads l.file ≡ raised (g.I.File.reads l.initial.file) l.done;
  keeps : KeepsFile g.I.File l.initial.file l.file;
  faults : g.I.File.faults l.file ≡ g.I.File.faults l.initial.file;
}

abbrev pub decreases-loop-done : goal.decreases-loop-done
decreases-loop-done g l = length l.initial.into - l.done
