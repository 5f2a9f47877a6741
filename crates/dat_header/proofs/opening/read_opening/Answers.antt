use Rattle.std.proofs.Common.{refl, arith}
use Rattle.std.proofs.lemmas.Result.{err_from_is_err_and}
use Rattle.dat_header.specs.Opening.{opening_at}
use Rattle.dat_header.proofs.Steps.{steps_then, steps_failed, steps_here}
use Rattle.dat_header.proofs.opening.read_opening.Goals as goal

pub returns-in_err-at_version-clause-steps : goal.returns-in_err-at_version-clause-steps
unfolding opening_at
returns-in_err-at_version-clause-steps g c =
    let p = err_from_is_err_and c.from_residual.result c.from_residual.ensures.1 in
    rw (p.1, p.2) (steps_failed _ _ _ _ _ _ _ _ c.in_err-at_version.ensures)

pub returns-in_err-at_order-clause-steps : goal.returns-in_err-at_order-clause-steps
unfolding opening_at
returns-in_err-at_order-clause-steps g c =
    let p = err_from_is_err_and c.from_residual-in_err-at_order.result c.from_residual-in_err-at_order.ensures.1 in
    rw (p.1, p.2) (steps_then _ _ _ _ _ _ _ _ _ _ c.in_ok-at_version.ensures (steps_failed _ _ _ _ _ _ _ _ c.in_err-at_order.ensures))

pub returns-in_err-machine-clause-steps : goal.returns-in_err-machine-clause-steps
unfolding opening_at
returns-in_err-machine-clause-steps g c =
    let p = err_from_is_err_and c.from_residual-in_err-machine.result c.from_residual-in_err-machine.ensures.1 in
    rw (p.1, p.2) (steps_then _ _ _ _ _ _ _ _ _ _ c.in_ok-at_version.ensures (steps_then _ _ _ _ _ _ _ _ _ _ c.in_ok-at_order.ensures (steps_failed _ _ _ _ _ _ _ _ c.in_err-machine.ensures.steps)))

pub returns-in_err-at_page-clause-steps : goal.returns-in_err-at_page-clause-steps
unfolding opening_at
returns-in_err-at_page-clause-steps g c =
    let p = err_from_is_err_and c.from_residual-in_err-at_page.result c.from_residual-in_err-at_page.ensures.1 in
    rw (p.1, p.2) (steps_then _ _ _ _ _ _ _ _ _ _ c.in_ok-at_version.ensures (steps_then _ _ _ _ _ _ _ _ _ _ c.in_ok-at_order.ensures (steps_then _ _ _ _ _ _ _ _ _ _ c.in_ok-machine.ensures.steps (steps_failed _ _ _ _ _ _ _ _ c.in_err-at_page.ensures))))

pub returns-in_err-page-clause-steps : goal.returns-in_err-page-clause-steps
unfolding opening_at
returns-in_err-page-clause-steps g c =
    let p = err_from_is_err_and c.from_residual-in_err-page.result c.from_residual-in_err-page.ensures.1 in
    rw (p.1, p.2) (steps_then _ _ _ _ _ _ _ _ _ _ c.in_ok-at_version.ensures (steps_then _ _ _ _ _ _ _ _ _ _ c.in_ok-at_order.ensures (steps_then _ _ _ _ _ _ _ _ _ _ c.in_ok-machine.ensures.steps (steps_then _ _ _ _ _ _ _ _ _ _ c.in_ok-at_page.ensures (steps_failed _ _ _ _ _ _ _ _ c.in_err-page.ensures.steps)))))

pub returns-in_err-at_event-clause-steps : goal.returns-in_err-at_event-clause-steps
unfolding opening_at
returns-in_err-at_event-clause-steps g c =
    let p = err_from_is_err_and c.from_residual-in_err-at_event.result c.from_residual-in_err-at_event.ensures.1 in
    rw (p.1, p.2) (steps_then _ _ _ _ _ _ _ _ _ _ c.in_ok-at_version.ensures (steps_then _ _ _ _ _ _ _ _ _ _ c.in_ok-at_order.ensures (steps_then _ _ _ _ _ _ _ _ _ _ c.in_ok-machine.ensures.steps (steps_then _ _ _ _ _ _ _ _ _ _ c.in_ok-at_page.ensures (steps_then _ _ _ _ _ _ _ _ _ _ c.in_ok-page.ensures.steps (steps_failed _ _ _ _ _ _ _ _ c.in_err-at_event.ensures))))))

pub returns-clause-steps : goal.returns-clause-steps
unfolding opening_at
returns-clause-steps g c =
    let last = c.in_ok-at_event.ensures in
    steps_then _ _ _ _ _ _ _ _ _ _ c.in_ok-at_version.ensures
    (steps_then _ _ _ _ _ _ _ _ _ _ c.in_ok-at_order.ensures
    (steps_then _ _ _ _ _ _ _ _ _ _ c.in_ok-machine.ensures.steps
    (steps_then _ _ _ _ _ _ _ _ _ _ c.in_ok-at_page.ensures
    (steps_then _ _ _ _ _ _ _ _ _ _ c.in_ok-page.ensures.steps
    (steps_then _ _ _ _ _ _ _ _ _ _ last (steps_here _ _ _ _ _ refl refl (omega (arith, last.inside, last.size))))))))
