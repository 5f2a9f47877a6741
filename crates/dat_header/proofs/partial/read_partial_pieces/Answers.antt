use Rattle.std.proofs.Common.{sym, ap, subst, arith}
use Rattle.std.proofs.lemmas.Result.{err_from_is_err_and}
use Rattle.dat_header.specs.declared.header.Header.{Header}
use Rattle.dat_header.specs.Partial.{IsPartial, partial_of}
use Rattle.dat_header.proofs.Headers.{found_header, partial_allowed}
use Rattle.dat_header.proofs.Steps.{steps_then, steps_failed, steps_here}
use Rattle.dat_header.proofs.partial.read_partial_pieces.Goals as goal

pub returns-in_err-opening-clause-steps : goal.returns-in_err-opening-clause-steps
unfolding partial_of
returns-in_err-opening-clause-steps g c =
    let p = err_from_is_err_and c.from_residual.result c.from_residual.ensures.1 in
    rw (p.1, p.2) (steps_failed _ _ _ _ _ _ _ _ c.in_err-opening.ensures.steps)

pub returns-in_err-described-clause-steps : goal.returns-in_err-described-clause-steps
unfolding partial_of
returns-in_err-described-clause-steps g c =
    let p = err_from_is_err_and c.from_residual-in_err-described.result c.from_residual-in_err-described.ensures.1 in
    rw (p.1, p.2) (steps_then _ _ _ _ _ _ _ _ _ _ c.in_ok-opening.ensures.steps (steps_failed _ _ _ _ _ _ _ _ c.in_err-described.ensures.steps))

pub returns-in_err-cmdlines-clause-steps : goal.returns-in_err-cmdlines-clause-steps
unfolding partial_of
returns-in_err-cmdlines-clause-steps g c =
    let p = err_from_is_err_and c.from_residual-in_err-cmdlines.result c.from_residual-in_err-cmdlines.ensures.1 in
    rw (p.1, p.2) (steps_then _ _ _ _ _ _ _ _ _ _ c.in_ok-opening.ensures.steps (steps_then _ _ _ _ _ _ _ _ _ _ c.in_ok-described.ensures.steps (steps_failed _ _ _ _ _ _ _ _ c.in_err-cmdlines.ensures.steps)))

pub returns-clause-steps : goal.returns-clause-steps
unfolding partial_of
returns-clause-steps g c =
    let last = c.in_ok-cmdlines.ensures.steps in
    steps_then _ _ _ _ _ _ _ _ _ _ c.in_ok-opening.ensures.steps
    (steps_then _ _ _ _ _ _ _ _ _ _ c.in_ok-described.ensures.steps
    (steps_then _ _ _ _ _ _ _ _ _ _ last
    (steps_here (λ header. header.end) _ _ _ c.partial_header.result (ap found_header (sym c.partial_header.ensures)) (ap (λ (header : Header). header.end) c.partial_header.ensures) (omega (arith, last.inside, last.size)))))

pub returns-clause-partial : goal.returns-clause-partial
returns-clause-partial g c =
    subst IsPartial (sym c.partial_header.ensures)
    (partial_allowed c.in_ok-opening.opening _ c.in_ok-cmdlines.end c.in_ok-opening.ensures.allowed (record { described = c.in_ok-described.ensures.allowed; cmdlines = c.in_ok-cmdlines.ensures.short }))
