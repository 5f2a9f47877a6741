use Rattle.std.proofs.lemmas.Result.{err_from_is_err_and}
use Rattle.dat_header.proofs.Written.{writes_by, writes_as, writes_then, writes_failed, table_behind}
use Rattle.dat_header.proofs.write.write_pieces.Goals as goal

pub returns-in_err-write_before_table : goal.returns-in_err-write_before_table
returns-in_err-write_before_table g c =
    let p = err_from_is_err_and c.from_residual.result c.from_residual.ensures.1 in
    rw (p.1, p.2) (writes_as _ _ _ _ _ (table_behind c.args.header.now c.args.parts.now) (writes_failed _ _ _ _ _ c.in_err-write_before_table.ensures))

pub returns : goal.returns
returns g c = writes_as _ _ _ _ _ (table_behind c.args.header.now c.args.parts.now) (writes_then _ _ _ _ _ _ _ c.in_ok-write_before_table.ensures ((writes_by _ _ _ _ c.write_table.ensures.gained c.write_table.ensures.prefix c.write_table.ensures.name c.write_table.ensures.cause)))
