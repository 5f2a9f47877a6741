use Rattle.std.proofs.Common.{refl, arith}
use Rattle.std.proofs.lemmas.Result.{err_from_is_err_and}
use Rattle.dat_header.specs.Header.{carried_at}
use Rattle.dat_header.proofs.Steps.{steps_then, steps_failed, steps_here}
use Rattle.dat_header.proofs.carried.read_carried.Goals as goal

pub returns-in_err-described-clause-steps : goal.returns-in_err-described-clause-steps
unfolding carried_at
returns-in_err-described-clause-steps g c =
    let p = err_from_is_err_and c.from_residual.result c.from_residual.ensures.1 in
    rw (p.1, p.2) (steps_failed _ _ _ _ _ _ _ _ c.in_err-described.ensures.steps)

pub returns-in_err-cmdlines-clause-steps : goal.returns-in_err-cmdlines-clause-steps
unfolding carried_at
returns-in_err-cmdlines-clause-steps g c =
    let p = err_from_is_err_and c.from_residual-in_err-cmdlines.result c.from_residual-in_err-cmdlines.ensures.1 in
    rw (p.1, p.2) (steps_then _ _ _ _ _ _ _ _ _ _ c.in_ok-described.ensures.steps (steps_failed _ _ _ _ _ _ _ _ c.in_err-cmdlines.ensures.steps))

pub returns-clause-steps : goal.returns-clause-steps
unfolding carried_at
returns-clause-steps g c =
    let last = c.in_ok-cmdlines.ensures.steps in
    steps_then _ _ _ _ _ _ _ _ _ _ c.in_ok-described.ensures.steps
    (steps_then _ _ _ _ _ _ _ _ _ _ last (steps_here _ _ _ _ _ refl refl (omega (arith, last.inside, last.size))))
