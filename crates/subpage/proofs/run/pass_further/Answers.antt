use Rattle.std.proofs.Common.{◌+◌, ◌-◌, drop, arith}
use Rattle.subpage.proofs.Runs.{same_delta}
use Rattle.subpage.proofs.run.pass_further.Goals as goal

pub returns-in_default : goal.returns-in_default
returns-in_default c = λ delta payload front back whole is. absurd (c.in_default.ensures delta payload front back whole is)

pub returns-then-reached-delta : goal.returns-then-reached-delta
returns-then-reached-delta c = λ delta payload front back whole is.
    let rest = drop c.args.reached.from c.args.bytes.now in
    let plain = c.in-Some.ensures.1.1 in
    let same = same_delta c.args.order 0 c.in-Some.delta (c.in-Some.behind - (c.args.reached.from + 4)) delta payload front back rest plain whole is in
    omega (arith, same, plain.1.1.0, c.if-reached-delta.true)
