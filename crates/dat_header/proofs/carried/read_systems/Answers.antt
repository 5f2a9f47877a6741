use Rattle.std.proofs.lemmas.Result.{err_from_is_err_and}
use Rattle.dat_header.specs.ItemsAt.{systems_at}
use Rattle.dat_header.proofs.Steps.{steps_then, steps_failed}
use Rattle.dat_header.proofs.carried.read_systems.Goals as goal

pub returns-in_err-count-clause-steps : goal.returns-in_err-count-clause-steps
unfolding systems_at
returns-in_err-count-clause-steps g c =
    let p = err_from_is_err_and c.from_residual.result c.from_residual.ensures.1 in
    rw (p.1, p.2) (steps_failed _ _ _ _ _ _ _ _ c.in_err-count.ensures)

pub returns-clause-steps : goal.returns-clause-steps
unfolding systems_at
returns-clause-steps g c = steps_then _ _ _ _ _ _ _ _ _ _ c.in_ok-count.ensures (c.read_each_system.ensures.steps)
