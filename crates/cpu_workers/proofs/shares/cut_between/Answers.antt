use Rattle.std.proofs.Common.{◌≡◌, take, arith, rules}
use Rattle.cpu_workers.specs.Shares.{busy_lanes, share_of}
use Rattle.cpu_workers.proofs.Marked.{busy_parts}
use Rattle.cpu_workers.proofs.Sharing.{left_over}
use Rattle.cpu_workers.proofs.shares.cut_between.Goals as goal

pub returns-clause-back : goal.returns-clause-back
returns-clause-back c =
    let lanes = c.args.lanes.now in
    let moved = c.args.moved.now in
    let cut = c.place_behind.result in
    let share : busy_lanes (take cut lanes) (take cut moved) ≡ share_of (busy_lanes lanes moved) c.args.workers c.args.first = search rules in
    omega (arith, busy_parts lanes moved cut, share, left_over (busy_lanes lanes moved) c.args.workers c.args.first c.requires.enough c.requires.first)
