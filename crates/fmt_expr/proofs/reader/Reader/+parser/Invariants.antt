use Rattle.std.proofs.Common.{Some, ◌≡◌, ◌+◌, ◌<◌, ◌≤◌, ◌-◌, length, ℕ, ◌*◌, option_map}
use Rattle.fmt_expr.specs.TreeView.{operands_of, entries_of}
use Rattle.fmt_expr.specs.Parsing.{row_at, row_behind, rows_behind, level_at, unary_at, inner_cond, entries_behind, tail_at}
use Rattle.fmt_expr.specs.SourceView.{source}
use Rattle.fmt_expr.specs.TakenView.{taken, taken_entry}
use Rattle.fmt_expr.proofs.RowTurns.{ends}
use Rattle.fmt_expr.proofs.EntryTurns.{after}
use Rattle.fmt_expr.proofs.reader.Reader.+parser.Given as goal

-- First the levels of nesting that are left, then those of operators.
abbrev pub decreases-cond : goal.decreases-cond
decreases-cond l = 48 * l.left + 39

abbrev pub decreases-choice : goal.decreases-choice
decreases-choice l = 48 * l.left + 1

abbrev pub decreases-inner_cond : goal.decreases-inner_cond
decreases-inner_cond l = 48 * l.left

abbrev pub decreases-inner_unary : goal.decreases-inner_unary
decreases-inner_unary l = 48 * l.left

abbrev pub decreases-number_before : goal.decreases-number_before
decreases-number_before l = 48 * l.left + 1

abbrev pub decreases-level : goal.decreases-level
decreases-level l = 48 * l.left + 3 * l.level + 8

abbrev pub decreases-row : goal.decreases-row
decreases-row l = 48 * l.left + 3 * l.level + 6

abbrev pub decreases-rows : goal.decreases-rows
decreases-rows l = 48 * l.left + 3 * l.level + 7

abbrev pub decreases-unary : goal.decreases-unary
decreases-unary l = 48 * l.left + 7

abbrev pub decreases-prefixed : goal.decreases-prefixed
decreases-prefixed l = 48 * l.left + 1

abbrev pub decreases-opened : goal.decreases-opened
decreases-opened l = 48 * l.left + 2

abbrev pub decreases-cast : goal.decreases-cast
decreases-cast l = 48 * l.left + 1

abbrev pub decreases-bracket : goal.decreases-bracket
decreases-bracket l = 48 * l.left + 1

abbrev pub decreases-field : goal.decreases-field
decreases-field l = 48 * l.left + 3

abbrev pub decreases-element : goal.decreases-element
decreases-element l = 48 * l.left + 2

abbrev pub decreases-call : goal.decreases-call
decreases-call l = 48 * l.left + 6

abbrev pub decreases-argument : goal.decreases-argument
decreases-argument l = 48 * l.left + 1

abbrev pub decreases-flags : goal.decreases-flags
decreases-flags l = 48 * l.left + 5

abbrev pub decreases-symbolic : goal.decreases-symbolic
decreases-symbolic l = 48 * l.left + 5

abbrev pub decreases-hex : goal.decreases-hex
decreases-hex l = 48 * l.left + 5

abbrev pub decreases-array : goal.decreases-array
decreases-array l = 48 * l.left + 5

abbrev pub decreases-entry : goal.decreases-entry
decreases-entry l = 48 * l.left + 2

abbrev pub decreases-more_entries : goal.decreases-more_entries
decreases-more_entries l = 48 * l.left + 3

abbrev pub decreases-entries : goal.decreases-entries
decreases-entries l = 48 * l.left + 4

-- The rows of the levels that are done are read.
abbrev pub invariant-rows-loop-op : goal.invariant-rows-loop-op
invariant-rows-loop-op l = let s = source l.self in record {
  rows : rows_behind s (unary_at s l.left) l.done (taken l.fn.first) ≡ Some (taken l.all);
  few : l.done ≤ l.level;
  behind : l.fn.first.next ≤ l.all.next;
  inside : l.all.next ≤ length l.self.tokens.now;
  nest : l.all.nest ≤ l.left;
}

abbrev pub decreases-rows-loop-op : goal.decreases-rows-loop-op
decreases-rows-loop-op l = l.level - l.done

-- What was read, with the row after it, is the whole row.
abbrev pub invariant-row-loop-op : goal.invariant-row-loop-op
invariant-row-loop-op l =
    let s = source l.self in
    let read = level_at s (unary_at s l.left) (l.level - 1) in
    (m : ℕ) × (length l.self.tokens.now < l.next + m)
    × (row_behind s read l.level (taken l.fn.first) ≡ ends (taken l.fn.first) (operands_of l.rest.items) l.nest (row_at s read l.level m l.next))
    × (l.fn.first.next ≤ l.next) × (l.next ≤ length l.self.tokens.now) × (l.nest ≤ l.left)

abbrev pub decreases-row-loop-op : goal.decreases-row-loop-op
decreases-row-loop-op l = length l.self.tokens.now - l.next

abbrev pub invariant-more_entries-loop-next : goal.invariant-more_entries-loop-next
invariant-more_entries-loop-next l =
    let s = source l.self in
    let inner = inner_cond s l.left in
    (m : ℕ) × (length l.self.tokens.now < l.next + m)
    × (entries_behind s inner (taken_entry l.fn.first) ≡ option_map (after (entries_of l.entries.items) l.nest) (tail_at s inner m l.next))
    × (l.fn.first.next ≤ l.next) × (l.next ≤ length l.self.tokens.now) × (l.nest < l.left)

abbrev pub decreases-more_entries-loop-next : goal.decreases-more_entries-loop-next
decreases-more_entries-loop-next l = length l.self.tokens.now - l.next
