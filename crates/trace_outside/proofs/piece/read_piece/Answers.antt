use Rattle.std.proofs.lemmas.Result.{err_from_is_err_and}
use Rattle.trace_outside.proofs.piece.read_piece.Goals as goal

pub returns-in_err-read_all-clause-filled : goal.returns-in_err-read_all-clause-filled
returns-in_err-read_all-clause-filled g c =
    let p = err_from_is_err_and c.from_residual.result c.from_residual.ensures.1 in
    rw (p.1, p.2) tt

pub returns-in_err-read_all-clause-cause : goal.returns-in_err-read_all-clause-cause
returns-in_err-read_all-clause-cause g c = λ read. c.in_err-read_all.ensures.cause.failed
