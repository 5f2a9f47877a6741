use Rattle.std.proofs.Common.{◌+◌, ◌-◌, ◌≡◌, ◌≤◌, length, take, drop, arith}
use Rattle.std.proofs.lemmas.List.{length-drop, length-take-le}
use Rattle.page_pool.proofs.Passing.{group_more}
use Rattle.page_pool.proofs.marks.next_dirty.Goals as goal

pub loop-at-preserved : goal.loop-at-preserved
loop-at-preserved c =
    let at = c.loop-at.at in
    let more : c.loop-at.at ≤ c.loop-at.at + 16 = omega arith in
    let within : c.loop-at.at + 16 ≤ length c.args.moved.now = omega (arith, c.loop-at-test.true, c.loop-at.invariant.within) in
    let long : length (take (at + 16 - at) (drop at c.args.moved.now)) ≡ at + 16 - at =
    length-take-le (at + 16 - at) (drop at c.args.moved.now) (omega (arith, length-drop at c.args.moved.now, within)) in
    group_more c.args.moved.now c.args.from at (at + 16) c.loop-at.invariant more within
    (λ k d less. c.if-not-contains.ensures.cases k d (omega arith) (omega (arith, less, long)))
