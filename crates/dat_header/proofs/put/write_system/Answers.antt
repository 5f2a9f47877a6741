use Rattle.std.proofs.lemmas.Result.{err_from_is_err_and}
use Rattle.dat_header.proofs.Written.{writes_by, writes_as, writes_then, writes_failed, system_joined}
use Rattle.dat_header.proofs.put.write_system.Goals as goal

pub returns-in_err-write_parts : goal.returns-in_err-write_parts
returns-in_err-write_parts g c =
    let p = err_from_is_err_and c.from_residual.result c.from_residual.ensures.1 in
    rw (p.1, p.2) (writes_as _ _ _ _ _ (system_joined c.args.order c.args.system.now c.as_bytes.result.now c.as_bytes.ensures) (writes_failed _ _ _ _ _ (writes_by _ _ _ _ c.in_err-write_parts.ensures.gained c.in_err-write_parts.ensures.prefix c.in_err-write_parts.ensures.name c.in_err-write_parts.ensures.cause)))

pub returns : goal.returns
returns g c = writes_as _ _ _ _ _ (system_joined c.args.order c.args.system.now c.as_bytes.result.now c.as_bytes.ensures) (writes_then _ _ _ _ _ _ _ (writes_by _ _ _ _ c.in_ok-write_parts.ensures.gained c.in_ok-write_parts.ensures.prefix c.in_ok-write_parts.ensures.name c.in_ok-write_parts.ensures.cause) (c.write_formats.ensures))
