use Rattle.std.proofs.Common.{◌≡◌, ℕ, ◌<◌, length, get_or}
use Rattle.trace_base.specs.declared.part.Part.{Part}
use Rattle.split_tool.proofs.table.clear_sizes.Given as goal

abbrev pub invariant-loop-i : goal.invariant-loop-i
invariant-loop-i l = record {
  long : length l.table ≡ length l.fn.table;
  none : (j : ℕ) (p : Part) → j < l.i → (get_or l.table j p).size ≡ 0;
}
