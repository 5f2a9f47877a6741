use Rattle.std.proofs.Common.{ap}
use Rattle.std.proofs.lemmas.Result.{err_from_is_err_and}
use Rattle.dat_header.specs.Items.{formats_text}
use Rattle.dat_header.proofs.Written.{writes_as, writes_then, writes_failed}
use Rattle.dat_header.proofs.put.write_formats.Goals as goal

pub returns-in_err-write_number : goal.returns-in_err-write_number
returns-in_err-write_number g c =
    let p = err_from_is_err_and c.from_residual.result c.from_residual.ensures.1 in
    rw (p.1, p.2) (writes_as _ _ _ _ _ (ap (formats_text c.args.order) c.as_slice-formats.ensures) (writes_failed _ _ _ _ _ c.in_err-write_number.ensures))

pub returns : goal.returns
returns g c = writes_as _ _ _ _ _ (ap (formats_text c.args.order) c.as_slice-formats.ensures) (writes_then _ _ _ _ _ _ _ c.in_ok-write_number.ensures (c.write_each_text.ensures))
