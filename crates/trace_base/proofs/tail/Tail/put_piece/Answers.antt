use Rattle.std.proofs.Common.{rules, arith, ◌<◌, ◌^◌, ◌+◌, ◌-◌, length}
use Rattle.trace_base.proofs.TailFronts.{piece_put}
use Rattle.trace_base.proofs.tail.Tail.put_piece.Goals as goal

pub returns-clause-held : goal.returns-clause-held
returns-clause-held c =
    let into = c.args.self.now.into.now in
    let total = c.args.self.now.total in
    let len = length c.args.piece.now in
    let small : length into < 2 ^ 63 = search rules in
    piece_put total (total + len - total) into c.copy_short.new.into c.args.piece.now small
    (omega arith) (omega (arith, c.saturating_add.ensures, c.if-saturating_add-self.false, small)) c.copy_short.ensures
