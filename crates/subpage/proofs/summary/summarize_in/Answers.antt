use Rattle.std.proofs.Common.{◌≤◌, length, arith}
use Rattle.subpage.specs.Left.{loss_items}
use Rattle.subpage.proofs.Counting.{one_claimed, one_next}
use Rattle.subpage.proofs.summary.summarize_in.Goals as goal

pub loop-after-preserved : goal.loop-after-preserved
loop-after-preserved c =
    let e = c.with_event-summary-in-Event.ensures in
    let next = c.in-Event.ensures.next in
    let within : c.loop-after.from ≤ length c.args.bytes.now = omega (arith, c.if-bytes-from.false) in
    one_next c.loop-after.summary _ (loss_items c.args.loss) c.args.order c.args.start c.loop-after.time c.args.bytes.now c.loop-after.from c.in-Event.after c.in-Event.payload.now
    c.bytes_past.result.now c.in-Event.rest.now c.loop-after.invariant within c.bytes_past.ensures next.0 next.1 c.in-Event.ensures.suffix e.count e.first e.last

pub loop-after-preserved-in-Some : goal.loop-after-preserved-in-Some
loop-after-preserved-in-Some c =
    let e = c.with_event-summary.ensures in
    one_claimed c.loop-after.summary _ (loss_items c.args.loss) c.args.order c.args.start c.loop-after.time c.args.bytes.now c.loop-after.from c.in-Some.after c.in-Some.behind
    c.loop-after.invariant c.in-Some.ensures e.count e.first e.last
