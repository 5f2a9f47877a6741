use Rattle.std.proofs.Common.{◌≡◌, ◌≤◌, ◌-◌, length, ℕ, ◌+◌, ◌*◌}
use Rattle.filter_lang.specs.TreeView.{tree_of, operands_of}
use Rattle.filter_lang.specs.ReaderView.{from}
use Rattle.filter_lang.specs.ConditionReading.{level_at, row, row_behind}
use Rattle.filter_lang.proofs.RowTurns.{ends}
use Rattle.filter_lang.proofs.reader.Reader.+parser.Given as goal

abbrev pub decreases-bracket : goal.decreases-bracket
decreases-bracket l = 32 * l.room + 25

abbrev pub decreases-level : goal.decreases-level
decreases-level l = 32 * l.room + 2 * l.level + 2

abbrev pub decreases-unary : goal.decreases-unary
decreases-unary l = 32 * l.room + 1

abbrev pub decreases-row : goal.decreases-row
decreases-row l = 32 * l.room + 2 * l.level + 1

abbrev pub decreases-under : goal.decreases-under
decreases-under l = 32 * l.room + 25

abbrev pub invariant-row-loop-op : goal.invariant-row-loop-op
invariant-row-loop-op l =
    let s = l.self in
    let G = level_at l.room (l.level - 1) in
    let x = tree_of l.fn.first.expr.value in
    (m : ℕ) × (length s.tokens.now ≤ l.next + m)
    × (row_behind G l.level x (from s l.fn.first.next) ≡ ends x (operands_of l.rest.items) (row G l.level m (from s l.next)))
    × (l.fn.first.next ≤ l.next) × (l.next ≤ length s.tokens.now)

abbrev pub decreases-row-loop-op : goal.decreases-row-loop-op
decreases-row-loop-op l = length l.self.tokens.now - l.next
