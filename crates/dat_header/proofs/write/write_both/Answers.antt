use Rattle.std.proofs.lemmas.Result.{err_from_is_err_and}
use Rattle.dat_header.proofs.Written.{writes_by, writes_as, writes_then, writes_failed, held_text}
use Rattle.dat_header.proofs.write.write_both.Goals as goal

pub returns-in_err-write_all : goal.returns-in_err-write_all
returns-in_err-write_all g c =
    let p = err_from_is_err_and c.from_residual.result c.from_residual.ensures.1 in
    rw (p.1, p.2) (writes_as _ _ _ _ _ (held_text c.args.header.now c.args.before.now c.as_bytes.result.now c.args.parts.now c.requires c.as_bytes.ensures) (writes_failed _ _ _ _ _ (writes_by _ _ _ _ c.in_err-write_all.ensures.gained c.in_err-write_all.ensures.prefix c.in_err-write_all.ensures.name c.in_err-write_all.ensures.cause)))

pub returns : goal.returns
returns g c = writes_as _ _ _ _ _ (held_text c.args.header.now c.args.before.now c.as_bytes.result.now c.args.parts.now c.requires c.as_bytes.ensures) (writes_then _ _ _ _ _ _ _ (writes_by _ _ _ _ c.in_ok-write_all.ensures.gained c.in_ok-write_all.ensures.prefix c.in_ok-write_all.ensures.name c.in_ok-write_all.ensures.cause) ((writes_by _ _ _ _ c.write_table.ensures.gained c.write_table.ensures.prefix c.write_table.ensures.name c.write_table.ensures.cause)))
