use Rattle.std.proofs.lemmas.Result.{err_from_is_err_and}
use Rattle.dat_header.specs.ItemsAt.{text_at}
use Rattle.dat_header.proofs.Steps.{steps_then, steps_failed}
use Rattle.dat_header.proofs.items.read_long_text.Goals as goal

pub returns-in_err-size-clause-steps : goal.returns-in_err-size-clause-steps
unfolding text_at
returns-in_err-size-clause-steps g c =
    let p = err_from_is_err_and c.from_residual.result c.from_residual.ensures.1 in
    rw (p.1, p.2) (steps_failed _ _ _ _ _ _ _ _ c.in_err-size.ensures)

pub returns-clause-steps : goal.returns-clause-steps
unfolding text_at
returns-clause-steps g c = steps_then _ _ _ _ _ _ _ _ _ _ c.in_ok-size.ensures c.read_content.ensures.steps
