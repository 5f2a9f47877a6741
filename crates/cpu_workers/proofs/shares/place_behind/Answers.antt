use Rattle.std.proofs.Common.{cond, ap, arith, ℕ, Bool}
use Rattle.page_pool.specs.Moved.{IsFirstMark}
use Rattle.cpu_workers.proofs.Marked.{busy_all, busy_more}
use Rattle.cpu_workers.proofs.shares.place_behind.Goals as goal
use Rattle.cpu_workers.proofs.shares.place_behind.Goals.{then-may_form, else-may_form}

pub loop-left-smaller : goal.loop-left-smaller
loop-left-smaller c =
    let mark : IsFirstMark c.args.moved.now c.loop-left.from c.in-Some.i = c.in-Some.ensures in
    omega (arith, mark.behind, mark.inside)

pub loop-left-preserved : goal.loop-left-preserved
loop-left-preserved c =
    let before = c.loop-left.invariant in
    let mark : IsFirstMark c.args.moved.now c.loop-left.from c.in-Some.i = c.in-Some.ensures in
    let more = busy_more c.args.lanes.now c.args.moved.now c.loop-left.from c.in-Some.i c.index-lanes-i.result c.may_form.result c.requires.marks mark c.index-lanes-i.is c.may_form.ensures in
    let one : Bool → ℕ = λ b. cond b 1 0 in
    elim c.if-may_form.branch [
      | then-may_form w ↦ record {
        count = omega (arith, more, before.count, w.left-is, c.loop-left-test.true, ap one w.if-may_form.true);
        within = omega (arith, mark.inside);
      }
      | else-may_form w ↦ record {
        count = omega (arith, more, before.count, w.left-is, ap one w.if-may_form.false);
        within = omega (arith, mark.inside);
      }
    ]

pub returns-in_default-clause-count : goal.returns-in_default-clause-count
returns-in_default-clause-count c =
    let before = c.loop-left.invariant in
    omega (arith, before.count, c.requires.enough, busy_all c.args.lanes.now c.args.moved.now c.loop-left.from c.requires.marks before.within c.in_default.ensures)
