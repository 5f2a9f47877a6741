use Rattle.std.proofs.Common.{◌≡◌, ◌++◌, drop}
use Rattle.std.specs.Prelude.{filter}
use Rattle.std.specs.List.{enumerate_from}
use Rattle.run_endings.specs.Selection.{chosen, has, selection_of}
use Rattle.run_endings.proofs.selection.Selection.chosen.Given as goal

abbrev pub invariant-loop-part : goal.invariant-loop-part
invariant-loop-part l = record {
  place : l.cpu ≡ l.part-index;
  chosen : l.taken.items ++ filter (λ part. has (selection_of l.self) part.0) (enumerate_from l.cpu (drop l.part-index l.parts)) ≡ chosen (selection_of l.self) l.parts;
}
