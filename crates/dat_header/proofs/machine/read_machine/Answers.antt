use Rattle.std.proofs.Common.{refl, arith}
use Rattle.dat_header.specs.Opening.{machine_at}
use Rattle.std.proofs.lemmas.Result.{err_from_is_err_and}
use Rattle.dat_header.proofs.Steps.{steps_then, steps_failed, steps_here}
use Rattle.dat_header.proofs.machine.read_machine.Goals as goal

pub returns-in_err-order-clause-steps : goal.returns-in_err-order-clause-steps
unfolding machine_at
returns-in_err-order-clause-steps g c =
    let p = err_from_is_err_and c.from_residual.result c.from_residual.ensures.1 in
    rw (p.1, p.2) (steps_failed _ _ _ _ _ _ _ _ c.in_err-order.ensures)

pub returns-in_err-long-clause-steps : goal.returns-in_err-long-clause-steps
unfolding machine_at
returns-in_err-long-clause-steps g c =
    let p = err_from_is_err_and c.from_residual-in_err-long.result c.from_residual-in_err-long.ensures.1 in
    rw (p.1, p.2) (steps_then _ _ _ _ _ _ _ _ _ _ c.in_ok-order.ensures (steps_failed _ _ _ _ _ _ _ _ c.in_err-long.ensures.steps))

pub returns-in_err-page-clause-steps : goal.returns-in_err-page-clause-steps
unfolding machine_at
returns-in_err-page-clause-steps g c =
    let p = err_from_is_err_and c.from_residual-in_err-page.result c.from_residual-in_err-page.ensures.1 in
    rw (p.1, p.2) (steps_then _ _ _ _ _ _ _ _ _ _ c.in_ok-order.ensures (steps_then _ _ _ _ _ _ _ _ _ _ c.in_ok-long.ensures.steps (steps_failed _ _ _ _ _ _ _ _ c.in_err-page.ensures.steps)))

pub returns-clause-steps : goal.returns-clause-steps
unfolding machine_at
returns-clause-steps g c =
    let last = c.in_ok-page.ensures.steps in
    steps_then _ _ _ _ _ _ _ _ _ _ c.in_ok-order.ensures (steps_then _ _ _ _ _ _ _ _ _ _ c.in_ok-long.ensures.steps (steps_then _ _ _ _ _ _ _ _ _ _ last (steps_here _ _ _ _ _ refl refl (omega (arith, last.inside, last.size)))))
