use Rattle.std.proofs.Common.{rules, arith, ◌≡◌, ◌+◌, ◌-◌, ◌<◌, ◌∙◌, length, sym, ap}
use Rattle.std.proofs.lemmas.Result.{err_from_is_err_and}
use Rattle.filter_lang.specs.Tree.{no_operands, operand}
use Rattle.filter_lang.specs.TreeView.{tree_of, operands_of}
use Rattle.filter_lang.specs.ReaderView.{from}
use Rattle.filter_lang.specs.ConditionReading.{found, row, row_behind, level_at}
use Rattle.filter_lang.proofs.Steps.{unary_no_bracket, unary_other}
use Rattle.filter_lang.proofs.RowTurns.{append, ends, begins, row_over, row_stops, row_goes_on, pushed, alone, several, passed, left_long}
use Rattle.filter_lang.proofs.reader.Reader.+parser.Goals as goal

pub row-loop-op-init : goal.row-loop-op-init
row-loop-op-init t c =
    let s = c.args.self.now in
    let G = level_at c.args.room (c.args.level - 1) in
    let x = tree_of c.args.first.expr.value in
    let ts = from s c.args.first.next in (
      length ts,
      left_long s c.args.first.next,
      begins G c.args.level x ts ∙ ap (λ os. ends x (operands_of os) (row G c.args.level (length ts) ts)) (sym c.new-rest.ensures.items),
      omega arith,
      c.requires.inside,
    )

pub row-returns-in_err-operand-clause-value : goal.row-returns-in_err-operand-clause-value
row-returns-in_err-operand-clause-value t c =
    let s = c.args.self.now in
    let G = level_at c.args.room (c.args.level - 1) in
    let x = tree_of c.args.first.expr.value in
    let l = c.loop-op in
    let i = l.invariant in
    let p = err_from_is_err_and c.from_residual.result c.from_residual.ensures.1 in
    rw (p.1, p.2) (passed s c.in_err-operand.field-0.0 (G (from s (l.next + 1))) (row_behind G c.args.level x (from s c.args.first.next))
    (λ rs none. i.2 ∙ row_stops G c.args.level (from s l.next) x (operands_of l.rest.items) i.0 c.in-Some.op (from s (l.next + 1)) rs (omega (arith, i.1, c.in-Some.ensures.within)) (sym c.in-Some.ensures.value) none)
    c.in_err-operand.ensures.value)

pub row-loop-op-preserved : goal.row-loop-op-preserved
row-loop-op-preserved t c =
    let s = c.args.self.now in
    let G = level_at c.args.room (c.args.level - 1) in
    let x = tree_of c.args.first.expr.value in
    let l = c.loop-op in
    let i = l.invariant in
    let y = c.in_ok-operand.operand in
    let b = c.in_ok-operand.ensures.bound in
    let more : operands_of c.push.new.self.items ≡ append (operands_of l.rest.items) (operand c.in-Some.op (tree_of y.expr.value) no_operands) = search (rules, pushed) in (
      i.0 - 1,
      omega (arith, i.1, b.0, c.in-Some.ensures.within),
      i.2 ∙ row_goes_on G c.args.level (from s l.next) x (operands_of l.rest.items) i.0 c.in-Some.op (tree_of y.expr.value) (from s (l.next + 1)) (from s y.next) (omega (arith, i.1, c.in-Some.ensures.within)) (sym c.in-Some.ensures.value) c.in_ok-operand.ensures.value
          ∙ ap (λ os. ends x os (row G c.args.level (i.0 - 1) (from s y.next))) (sym more),
      omega (arith, i.3, b.0),
      b.1,
    )

pub row-returns-then-is_empty-clause-value : goal.row-returns-then-is_empty-clause-value
row-returns-then-is_empty-clause-value t c =
    let s = c.args.self.now in
    let G = level_at c.args.room (c.args.level - 1) in
    let x = tree_of c.args.first.expr.value in
    let l = c.loop-op in
    let i = l.invariant in
    let none : length l.rest.items ≡ 0 = search rules in
    i.2 ∙ row_over G c.args.level (from s l.next) x (operands_of l.rest.items) i.0 (sym c.in_default.ensures.value) ∙ alone x (from s l.next) l.rest.items none

pub row-returns-clause-value : goal.row-returns-clause-value
row-returns-clause-value t c =
    let s = c.args.self.now in
    let G = level_at c.args.room (c.args.level - 1) in
    let x = tree_of c.args.first.expr.value in
    let l = c.loop-op in
    let i = l.invariant in
    let some : 0 < length l.rest.items = search rules in
    i.2 ∙ row_over G c.args.level (from s l.next) x (operands_of l.rest.items) i.0 (sym c.in_default.ensures.value) ∙ several x (from s l.next) l.rest.items some
    ∙ ap (λ tree. found tree (from s l.next)) (sym c.in_ok-expr.ensures)

pub unary-returns-then-room-eq0-2-clause-value : goal.unary-returns-then-room-eq0-2-clause-value
unary-returns-then-room-eq0-2-clause-value t c =
    unary_no_bracket c.args.room (from c.args.self.now c.args.at) (from c.args.self.now (c.args.at + 1)) (search rules) (search rules)

pub unary-returns-in_default-word-clause-value : goal.unary-returns-in_default-word-clause-value
unary-returns-in_default-word-clause-value t c =
    let ts = from c.args.self.now c.args.at in
    let us = from c.args.self.now (c.args.at + 1) in
    unary_other c.args.room ts us c.in_ok-word.word (search rules) (search rules) c.in_default-word.not-Number c.in_default-word.not-Text c.in_default-word.not-Field c.in_default-word.not-Open
