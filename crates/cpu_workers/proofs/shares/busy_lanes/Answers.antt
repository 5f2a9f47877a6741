use Rattle.std.proofs.Common.{cond, ap, arith, ℕ, Bool}
use Rattle.page_pool.specs.Moved.{IsFirstMark}
use Rattle.cpu_workers.proofs.Marked.{busy_all, busy_more}
use Rattle.cpu_workers.proofs.shares.busy_lanes.Goals as goal
use Rattle.cpu_workers.proofs.shares.busy_lanes.Goals.{then-may_form, else-may_form}

pub loop-i-smaller : goal.loop-i-smaller
loop-i-smaller c =
    let mark : IsFirstMark c.args.moved.now c.loop-i.from c.in-Some.i = c.in-Some.ensures in
    omega (arith, mark.behind, mark.inside)

pub loop-i-preserved : goal.loop-i-preserved
loop-i-preserved c =
    let before = c.loop-i.invariant in
    let mark : IsFirstMark c.args.moved.now c.loop-i.from c.in-Some.i = c.in-Some.ensures in
    let more = busy_more c.args.lanes.now c.args.moved.now c.loop-i.from c.in-Some.i c.index-lanes-i.result c.may_form.result c.requires.marks mark c.index-lanes-i.is c.may_form.ensures in
    let one : Bool → ℕ = λ b. cond b 1 0 in
    elim c.if-may_form.branch [
      | then-may_form w ↦ record {
        busy = omega (arith, more, before.busy, w.busy-is, ap one w.if-may_form.true);
        few = omega (arith, before.few, mark.behind, w.busy-is);
        within = omega (arith, mark.inside);
      }
      | else-may_form w ↦ record {
        busy = omega (arith, more, before.busy, w.busy-is, ap one w.if-may_form.false);
        few = omega (arith, before.few, mark.behind, w.busy-is);
        within = omega (arith, mark.inside);
      }
    ]

pub returns : goal.returns
returns c =
    let before = c.loop-i.invariant in
    omega (arith, before.busy, busy_all c.args.lanes.now c.args.moved.now c.loop-i.from c.requires.marks before.within c.in_default.ensures)
