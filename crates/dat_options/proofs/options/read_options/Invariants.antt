use Rattle.std.proofs.Common.{◌≡◌, ◌+◌, ◌-◌, ◌≤◌, max, length}
use Rattle.std.specs.List.{All, flat_map}
use Rattle.trace_outside.specs.Causes.{raised}
use Rattle.trace_outside.specs.Keeping.{KeepsFile}
use Rattle.dat_options.specs.Options.{IsOption, option_text}
use Rattle.dat_options.proofs.FirstLaws.{HoldsAt}
use Rattle.dat_options.proofs.options.read_options.Given as goal

abbrev pub invariant-loop-options : goal.invariant-loop-options
invariant-loop-options g l = record {
  allowed : All IsOption l.options.items;
  behind : l.place ≡ l.at + length (flat_map (option_text l.order) l.options.items);
  holds : HoldsAt (g.F.File.bytes l.initial.file) l.at (flat_map (option_text l.order) l.options.items);
  inside : l.place ≤ max l.at (g.F.File.size l.initial.file);
  reads : g.F.File.reads l.file ≡ raised (g.F.File.reads l.initial.file) (l.place - l.at);
  keeps : KeepsFile g.F.File l.initial.file l.file;
  faults : g.F.File.faults l.file ≡ g.F.File.faults l.initial.file;
}

abbrev pub decreases-loop-options : goal.decreases-loop-options
decreases-loop-options g l = g.F.File.size l.initial.file - l.place
