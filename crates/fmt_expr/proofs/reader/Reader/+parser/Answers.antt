use Rattle.std.proofs.Common.{rules, refl, ℕ, arith, ◌≡◌, ◌+◌, ◌-◌, ◌<◌, ◌∙◌, max, length, Some, true, false, sym, ap, ap₂, codes, option_map}
use Rattle.std.proofs.lemmas.Result.{err_from_is_err_and}
use Rattle.fmt_expr.specs.Tree.{no_operands, operand, no_entries, entry}
use Rattle.fmt_expr.specs.TreeView.{operands_of, entries_of}
use Rattle.fmt_expr.specs.Kinds.{is_number}
use Rattle.c_operators.specs.Operators.{level_of}
use Rattle.fmt_expr.specs.Parsing.{found, row_at, row_behind, rows_behind, level_at, unary_at, inner_cond, entry_at, tail_at, entries_behind}
use Rattle.fmt_expr.specs.SourceView.{source}
use Rattle.fmt_expr.specs.TakenView.{taken, taken_entry}
use Rattle.fmt_expr.specs.Source.{is_mark}
use Rattle.fmt_expr.proofs.EntryTurns.{after, both, first_only, tail_over, tail_fails, tail_goes_on, added, passed_entries}
use Rattle.fmt_expr.proofs.Layers.{cond_plain}
use Rattle.fmt_expr.proofs.RowTurns.{append, level_alone, rows_zero, rows_over, rows_loose, rows_next, rows_stop, ends, begins, row_over, row_fails, row_mixed, row_goes_on, pushed, alone, in_chain, no_chain, passed}
use Rattle.fmt_expr.proofs.reader.Reader.+parser.Goals as goal

pub cond-returns-else-is_mark-clause-value : goal.cond-returns-else-is_mark-clause-value
cond-returns-else-is_mark-clause-value t c =
    cond_plain (source c.args.self.now) c.args.left c.args.at (taken c.in_ok-test.test) c.in_ok-test.ensures.value (sym c.if-is_mark.ensures.value)

pub level-returns-in-None-clause-value : goal.level-returns-in-None-clause-value
level-returns-in-None-clause-value t c =
    let s = source c.args.self.now in
    level_alone s (unary_at s c.args.left) c.args.level c.args.at (taken c.in_ok-first.first) c.in_ok-first.ensures.value c.in-None.ensures

pub rows-loop-op-init : goal.rows-loop-op-init
rows-loop-op-init t c =
    let s = source c.args.self.now in
    record {
      rows = rows_zero s (unary_at s c.args.left) 0 (taken c.args.first) refl;
      few = omega arith;
      behind = omega arith;
      inside = c.requires.inside;
      nest = c.requires.nest;
    }

pub rows-returns-clause-value : goal.rows-returns-clause-value
rows-returns-clause-value t c =
    let s = source c.args.self.now in
    let l = c.loop-op in
    rows_over s (unary_at s c.args.left) l.done c.args.level (taken c.args.first) (taken l.all) l.invariant.rows l.invariant.few c.in_default.ensures

pub rows-returns-then-level-next-clause-value : goal.rows-returns-then-level-next-clause-value
rows-returns-then-level-next-clause-value t c =
    let s = source c.args.self.now in
    let l = c.loop-op in
    let greater : max c.level.result (l.done + 1) ≡ c.max-next.result = search rules in
    let next : max (level_of c.in-Some.op) (l.done + 1) ≡ c.max-next.result = ap (λ (n : ℕ). max n (l.done + 1)) (sym c.level.ensures.value) ∙ greater in
    rows_loose s (unary_at s c.args.left) l.done c.args.level c.max-next.result (taken c.args.first) (taken l.all) c.in-Some.op l.invariant.rows l.invariant.few c.in-Some.ensures next c.if-level-next.true

pub rows-returns-in_err-more-clause-value : goal.rows-returns-in_err-more-clause-value
rows-returns-in_err-more-clause-value t c =
    let s = source c.args.self.now in
    let read = unary_at s c.args.left in
    let l = c.loop-op in
    let x = taken c.args.first in
    let greater : max c.level.result (l.done + 1) ≡ c.max-next.result = search rules in
    let next : max (level_of c.in-Some.op) (l.done + 1) ≡ c.max-next.result = ap (λ (n : ℕ). max n (l.done + 1)) (sym c.level.ensures.value) ∙ greater in
    let p = err_from_is_err_and c.from_residual.result c.from_residual.ensures.1 in
    rw (p.1, p.2) (passed c.in_err-more.field-0.0 (row_behind s (level_at s read (c.max-next.result - 1)) c.max-next.result (taken l.all)) (rows_behind s read c.args.level x)
    (λ none.
    let whole = rows_next s read l.done c.max-next.result x (taken l.all) c.in-Some.op l.invariant.rows c.in-Some.ensures next in
    rows_stop s read c.max-next.result c.args.level x (whole ∙ none) (omega (arith, c.if-level-next.false)))
    c.in_err-more.ensures.value)

pub rows-loop-op-preserved : goal.rows-loop-op-preserved
rows-loop-op-preserved t c =
    let s = source c.args.self.now in
    let read = unary_at s c.args.left in
    let l = c.loop-op in
    let greater : max c.level.result (l.done + 1) ≡ c.max-next.result = search rules in
    let next : max (level_of c.in-Some.op) (l.done + 1) ≡ c.max-next.result = ap (λ (n : ℕ). max n (l.done + 1)) (sym c.level.ensures.value) ∙ greater in
    let more = c.in_ok-more.ensures in
    record {
      rows = rows_next s read l.done c.max-next.result (taken c.args.first) (taken l.all) c.in-Some.op l.invariant.rows c.in-Some.ensures next ∙ more.value;
      few = omega (arith, c.if-level-next.false);
      behind = omega (arith, l.invariant.behind, more.bound.0);
      inside = more.bound.1;
      nest = more.bound.2;
    }

pub row-loop-op-init : goal.row-loop-op-init
row-loop-op-init t c =
    let s = source c.args.self.now in
    let read = level_at s (unary_at s c.args.left) (c.args.level - 1) in
    let x = taken c.args.first in
    let inside = c.requires.inside in
    let turns = row_at s read c.args.level (length c.args.self.now.tokens.now + 1) c.args.first.next in (
      length c.args.self.now.tokens.now + 1,
      omega arith,
      begins s read c.args.level x ∙ ap (λ os. ends x (operands_of os) c.args.first.nest turns) (sym c.new-rest.ensures.items),
      omega arith,
      inside,
      c.requires.nest,
    )

pub row-returns-in_err-operand-clause-value : goal.row-returns-in_err-operand-clause-value
row-returns-in_err-operand-clause-value t c =
    let s = source c.args.self.now in
    let read = level_at s (unary_at s c.args.left) (c.args.level - 1) in
    let x = taken c.args.first in
    let l = c.loop-op in
    let i = l.invariant in
    let p = err_from_is_err_and c.from_residual.result c.from_residual.ensures.1 in
    rw (p.1, p.2) (passed c.in_err-operand.field-0.0 (read (l.next + 1)) (row_behind s read c.args.level x)
    (λ none. i.2 ∙ row_fails s read c.args.level i.0 l.next x (operands_of l.rest.items) l.nest (omega (arith, i.1, i.4)) c.in-Some.op (sym c.in-Some.ensures.value) none)
    c.in_err-operand.ensures.value)

pub row-returns-then-not-is_number-clause-value : goal.row-returns-then-not-is_number-clause-value
row-returns-then-not-is_number-clause-value t c =
    let s = source c.args.self.now in
    let read = level_at s (unary_at s c.args.left) (c.args.level - 1) in
    let x = taken c.args.first in
    let l = c.loop-op in
    let i = l.invariant in
    let y = taken c.in_ok-operand.operand in
    let never : is_number y.tree ≡ false = search rules in
    i.2 ∙ row_mixed s read c.args.level i.0 l.next x (operands_of l.rest.items) l.nest (omega (arith, i.1, i.4)) c.in-Some.op y (sym c.in-Some.ensures.value) c.in_ok-operand.ensures.value never

pub row-loop-op-preserved : goal.row-loop-op-preserved
row-loop-op-preserved t c =
    let s = source c.args.self.now in
    let read = level_at s (unary_at s c.args.left) (c.args.level - 1) in
    let x = taken c.args.first in
    let l = c.loop-op in
    let i = l.invariant in
    let y = taken c.in_ok-operand.operand in
    let b = c.in_ok-operand.ensures.bound in
    let number : is_number y.tree ≡ true = search rules in
    let more : operands_of c.push.new.self.items ≡ append (operands_of l.rest.items) (operand c.in-Some.op y.tree no_operands) = search (rules, pushed) in
    let deeper : max l.nest y.nest ≡ c.max-nest.result = search rules in
    let turns = row_at s read c.args.level (i.0 - 1) y.next in (
      i.0 - 1,
      omega (arith, i.1, b.0, i.4),
      i.2 ∙ row_goes_on s read c.args.level i.0 l.next x (operands_of l.rest.items) l.nest (omega (arith, i.1, i.4)) c.in-Some.op y (sym c.in-Some.ensures.value) c.in_ok-operand.ensures.value number
          ∙ ap₂ (λ os n. ends x os n turns) (sym more) deeper,
      omega (arith, i.3, b.0),
      b.1,
      omega (arith, i.5, b.2, deeper),
    )

pub row-returns-then-is_empty-clause-value : goal.row-returns-then-is_empty-clause-value
row-returns-then-is_empty-clause-value t c =
    let s = source c.args.self.now in
    let read = level_at s (unary_at s c.args.left) (c.args.level - 1) in
    let x = taken c.args.first in
    let l = c.loop-op in
    let i = l.invariant in
    let none : length l.rest.items ≡ 0 = search rules in
    i.2 ∙ row_over s read c.args.level i.0 l.next x (operands_of l.rest.items) l.nest (omega (arith, i.1, i.4)) (sym c.in_default.ensures.value) ∙ alone x l.nest l.next l.rest.items none

pub row-returns-then-not-is_number-2-clause-value : goal.row-returns-then-not-is_number-2-clause-value
row-returns-then-not-is_number-2-clause-value t c =
    let s = source c.args.self.now in
    let read = level_at s (unary_at s c.args.left) (c.args.level - 1) in
    let x = taken c.args.first in
    let l = c.loop-op in
    let i = l.invariant in
    let some : 0 < length l.rest.items = search rules in
    let never : is_number x.tree ≡ false = search rules in
    i.2 ∙ row_over s read c.args.level i.0 l.next x (operands_of l.rest.items) l.nest (omega (arith, i.1, i.4)) (sym c.in_default.ensures.value) ∙ no_chain x l.nest l.next l.rest.items some never

pub row-returns-clause-value : goal.row-returns-clause-value
row-returns-clause-value t c =
    let s = source c.args.self.now in
    let read = level_at s (unary_at s c.args.left) (c.args.level - 1) in
    let x = taken c.args.first in
    let l = c.loop-op in
    let i = l.invariant in
    let some : 0 < length l.rest.items = search rules in
    let number : is_number x.tree ≡ true = search rules in
    i.2 ∙ row_over s read c.args.level i.0 l.next x (operands_of l.rest.items) l.nest (omega (arith, i.1, i.4)) (sym c.in_default.ensures.value) ∙ in_chain x l.nest l.next l.rest.items some number
    ∙ ap (λ tree. Some (found tree l.nest l.next)) (sym c.in_ok-expr.ensures)

pub more_entries-loop-next-init : goal.more_entries-loop-next-init
more_entries-loop-next-init t c =
    let s = source c.args.self.now in
    let inner = inner_cond s c.args.left in
    let e = taken_entry c.args.first in
    let one : entries_of c.push.new.self.items ≡ entry e.value e.text no_entries = search (rules, added) in (
      length c.args.self.now.tokens.now + 1,
      omega arith,
      first_only s inner e (entries_of c.push.new.self.items) one,
      omega arith,
      c.requires.inside,
      c.requires.nest,
    )

pub more_entries-returns-in_err-entry-clause-value : goal.more_entries-returns-in_err-entry-clause-value
more_entries-returns-in_err-entry-clause-value t c =
    let s = source c.args.self.now in
    let inner = inner_cond s c.args.left in
    let l = c.loop-next in
    let i = l.invariant in
    let comma : is_mark s l.next (codes ",") ≡ true = search rules in
    let p = err_from_is_err_and c.from_residual-in_err-entry.result c.from_residual-in_err-entry.ensures.1 in
    rw (p.1, p.2) (passed_entries c.in_err-entry.field-0.0 (entry_at s inner (l.next + 1)) (entries_behind s inner (taken_entry c.args.first))
    (λ none. i.2 ∙ tail_fails s inner i.0 l.next (entries_of l.entries.items) l.nest (omega (arith, i.1, i.4)) comma none) c.in_err-entry.ensures.value)

pub more_entries-loop-next-preserved : goal.more_entries-loop-next-preserved
more_entries-loop-next-preserved t c =
    let s = source c.args.self.now in
    let inner = inner_cond s c.args.left in
    let l = c.loop-next in
    let i = l.invariant in
    let comma : is_mark s l.next (codes ",") ≡ true = search rules in
    let e = taken_entry c.in_ok-entry.entry in
    let b = c.in_ok-entry.ensures.bound in
    let more : entries_of c.push-in-loop-next.new.self.items ≡ both (entries_of l.entries.items) (entry e.value e.text no_entries) = search (rules, added) in
    let deeper : max l.nest e.nest ≡ c.max-nest.result = search rules in
    let rest = tail_at s inner (i.0 - 1) e.next in (
      i.0 - 1,
      omega (arith, i.1, b.0, i.4),
      i.2 ∙ tail_goes_on s inner i.0 l.next (entries_of l.entries.items) l.nest (omega (arith, i.1, i.4)) e comma c.in_ok-entry.ensures.value ∙ ap₂ (λ es n. option_map (after es n) rest) (sym more) deeper,
      omega (arith, i.3, b.0),
      b.1,
      omega (arith, i.5, b.2, deeper),
    )

pub more_entries-returns-clause-value : goal.more_entries-returns-clause-value
more_entries-returns-clause-value t c =
    let s = source c.args.self.now in
    let inner = inner_cond s c.args.left in
    let l = c.loop-next in
    let i = l.invariant in
    let never : is_mark s l.next (codes ",") ≡ false = search rules in
    i.2 ∙ tail_over s inner i.0 l.next (entries_of l.entries.items) l.nest (omega (arith, i.1, i.4)) never
