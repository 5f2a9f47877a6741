use Rattle.std.proofs.Common.{rules, arith, ◌<◌, ◌^◌, ◌+◌, ◌-◌, ◌∙◌, length}
use Rattle.trace_base.proofs.TailFronts.{front_put}
use Rattle.trace_base.proofs.tail.Tail.put_front.Goals as goal

pub returns-then-saturating_add-self-clause-held : goal.returns-then-saturating_add-self-clause-held
returns-then-saturating_add-self-clause-held c =
    let into = c.args.self.now.into.now in
    let total = c.args.self.now.total in
    let small : length into < 2 ^ 63 = search rules in
    front_put total (total + 16 - total) c.args.len into c.copy_from_slice-then-saturating_add-self.new.self c.args.text.now small
    (omega arith) (omega (arith, c.saturating_add.ensures, c.if-saturating_add-self.true, small))
    (c.copy_from_slice-then-saturating_add-self.ensures.after ∙ c.copy_from_slice.ensures.after) c.if-len-le16.true c.requires.longer
