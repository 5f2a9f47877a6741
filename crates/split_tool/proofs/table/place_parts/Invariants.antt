use Rattle.std.proofs.Common.{◌≡◌, ℕ, ◌%◌, ◌^◌, ◌<◌, ◌≤◌, List, length, get_or}
use Rattle.trace_base.specs.declared.layout.Layout.{Layout}
use Rattle.trace_base.specs.declared.part.Part.{Part}
use Rattle.subpage.specs.Arrangement.{Keyed}
use Rattle.split_tool.specs.Counted.{IsSized}
use Rattle.split_tool.proofs.Tables.{FilledTo}
use Rattle.split_tool.proofs.table.place_parts.Given as goal

abbrev pub invariant-loop-cpu : goal.invariant-loop-cpu
invariant-loop-cpu l = record {
  long : length l.table ≡ length l.fn.table;
  rest : (j : ℕ) (p : Part) → l.cpu ≤ j → get_or l.table j p ≡ get_or l.fn.table j p;
  filled : (layout : Layout) (xs : List Keyed) (whole : ℕ) → l.at ≡ whole % 2 ^ 64 → ((cpu : ℕ) → cpu < length l.fn.table → IsSized layout xs l.fn.table cpu) → FilledTo layout whole l.cpu xs l.place l.table;
}
