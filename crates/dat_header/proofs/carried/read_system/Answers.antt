use Rattle.std.proofs.Common.{refl, arith}
use Rattle.std.proofs.lemmas.Result.{err_from_is_err_and}
use Rattle.dat_header.specs.ItemsAt.{system_at}
use Rattle.dat_header.proofs.Steps.{steps_then, steps_failed, steps_here}
use Rattle.dat_header.proofs.carried.read_system.Goals as goal

pub returns-in_err-name-clause-steps : goal.returns-in_err-name-clause-steps
unfolding system_at
returns-in_err-name-clause-steps g c =
    let p = err_from_is_err_and c.from_residual.result c.from_residual.ensures.1 in
    rw (p.1, p.2) (steps_failed _ _ _ _ _ _ _ _ c.in_err-name.ensures.steps)

pub returns-in_err-formats-clause-steps : goal.returns-in_err-formats-clause-steps
unfolding system_at
returns-in_err-formats-clause-steps g c =
    let p = err_from_is_err_and c.from_residual-in_err-formats.result c.from_residual-in_err-formats.ensures.1 in
    rw (p.1, p.2) (steps_then _ _ _ _ _ _ _ _ _ _ c.in_ok-name.ensures.steps (steps_failed _ _ _ _ _ _ _ _ c.in_err-formats.ensures.steps))

pub returns-clause-steps : goal.returns-clause-steps
unfolding system_at
returns-clause-steps g c =
    let last = c.in_ok-formats.ensures.steps in
    steps_then _ _ _ _ _ _ _ _ _ _ c.in_ok-name.ensures.steps (steps_then _ _ _ _ _ _ _ _ _ _ c.in_ok-formats.ensures.steps (steps_here _ _ _ _ _ refl refl (omega (arith, last.inside, last.size))))
