use Rattle.std.proofs.Common.{◌≡◌, ℕ, ◌+◌, ◌≤◌, length, map, take, drop, get_or}
use Rattle.page_pool.specs.declared.region.LineEntry.{LineEntry}
use Rattle.page_pool.specs.Lines.{earlier}
use Rattle.page_pool.proofs.region.move_marks.Given as goal

abbrev pub invariant-loop-i : goal.invariant-loop-i
invariant-loop-i l = record {
  long : length l.marks ≡ length l.fn.marks;
  inside : l.i ≤ l.count;
  moved : take l.i l.marks ≡ map (earlier l.by) (take l.i (drop l.first l.fn.marks));
  behind : (j : ℕ) → (d : LineEntry) → l.first + l.i ≤ j → get_or l.marks j d ≡ get_or l.fn.marks j d;
}
