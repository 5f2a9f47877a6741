use Rattle.std.proofs.Common.{rules}
use Rattle.std.proofs.lemmas.Result.{err_from_is_err_and}
use Rattle.dat_header.proofs.items.read_there.Goals as goal

pub returns-in_err-read_all : goal.returns-in_err-read_all
returns-in_err-read_all g c =
    let p = err_from_is_err_and c.from_residual.result c.from_residual.ensures.1 in
    rw (p.1, p.2) (search rules)
