use Rattle.line_fronts.specs.Tasks.{AreFronts}
use Rattle.line_fronts.proofs.tasks.saved_fronts.Given as goal

abbrev pub invariant-loop-place : goal.invariant-loop-place
invariant-loop-place l = AreFronts l.show l.symbols.tasks l.fronts.items
