use Rattle.std.proofs.Common.{arith}
use Rattle.std.proofs.lemmas.Map.Text.{is_eq-slice_cmp}
use Rattle.trace_outside.proofs.memory.folder.newest.Goals as goal

pub returns-then-eq : goal.returns-then-eq
returns-then-eq c = grind (arith, is_eq-slice_cmp)

pub loop-key-preserved : goal.loop-key-preserved
loop-key-preserved c = grind (arith, is_eq-slice_cmp)
