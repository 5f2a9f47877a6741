use Rattle.std.proofs.Common.{◌-◌, ◌∙◌, length, drop, arith}
use Rattle.std.proofs.lemmas.List.{take_rest}
use Rattle.trace_base.proofs.TailPieces.{by_ends}
use Rattle.trace_base.proofs.tail.copy_by_ends.Goals as goal

pub returns : goal.returns
returns g c =
    by_ends g.row.N (length c.args.piece.now - g.row.N) c.args.piece.now c.copy_from_slice-3.new.self (drop g.row.N c.args.into.now) c.copy_from_slice-4.new.self
    (omega (arith, c.requires.most)) c.requires.least (c.copy_from_slice-3.ensures.after ∙ c.copy_from_slice.ensures.after) (c.copy_from_slice-4.ensures.after ∙ c.copy_from_slice-2.ensures.after ∙ take_rest c.args.piece.now (length c.args.piece.now - g.row.N))
