use Rattle.std.proofs.Common.{sym, ap, subst, arith}
use Rattle.std.proofs.lemmas.Result.{err_from_is_err_and}
use Rattle.dat_header.specs.declared.header.Header.{Header}
use Rattle.dat_header.specs.Allowed.{IsHeader}
use Rattle.dat_header.specs.Header.{header_of}
use Rattle.dat_header.proofs.Headers.{found_header, header_allowed}
use Rattle.dat_header.proofs.Steps.{steps_then, steps_failed, steps_here}
use Rattle.dat_header.proofs.read.read_pieces.Goals as goal

pub returns-in_err-opening-clause-steps : goal.returns-in_err-opening-clause-steps
unfolding header_of
returns-in_err-opening-clause-steps g c =
    let p = err_from_is_err_and c.from_residual.result c.from_residual.ensures.1 in
    rw (p.1, p.2) (steps_failed _ _ _ _ _ _ _ _ c.in_err-opening.ensures.steps)

pub returns-in_err-carried-clause-steps : goal.returns-in_err-carried-clause-steps
unfolding header_of
returns-in_err-carried-clause-steps g c =
    let p = err_from_is_err_and c.from_residual-in_err-carried.result c.from_residual-in_err-carried.ensures.1 in
    rw (p.1, p.2) (steps_then _ _ _ _ _ _ _ _ _ _ c.in_ok-opening.ensures.steps (steps_failed _ _ _ _ _ _ _ _ c.in_err-carried.ensures.steps))

pub returns-in_err-cpus-clause-steps : goal.returns-in_err-cpus-clause-steps
unfolding header_of
returns-in_err-cpus-clause-steps g c =
    let p = err_from_is_err_and c.from_residual-in_err-cpus.result c.from_residual-in_err-cpus.ensures.1 in
    rw (p.1, p.2) (steps_then _ _ _ _ _ _ _ _ _ _ c.in_ok-opening.ensures.steps (steps_then _ _ _ _ _ _ _ _ _ _ c.in_ok-carried.ensures.steps (steps_failed _ _ _ _ _ _ _ _ c.in_err-cpus.ensures.steps)))

pub returns-in_err-sections-clause-steps : goal.returns-in_err-sections-clause-steps
unfolding header_of
returns-in_err-sections-clause-steps g c =
    let p = err_from_is_err_and c.from_residual-in_err-sections.result c.from_residual-in_err-sections.ensures.1 in
    rw (p.1, p.2) (steps_then _ _ _ _ _ _ _ _ _ _ c.in_ok-opening.ensures.steps (steps_then _ _ _ _ _ _ _ _ _ _ c.in_ok-carried.ensures.steps
    (steps_then _ _ _ _ _ _ _ _ _ _ c.in_ok-cpus.ensures.steps (steps_failed _ _ _ _ _ _ _ _ c.in_err-sections.ensures.steps))))

pub returns-clause-steps : goal.returns-clause-steps
unfolding header_of
returns-clause-steps g c =
    let last = c.in_ok-sections.ensures.steps in
    steps_then _ _ _ _ _ _ _ _ _ _ c.in_ok-opening.ensures.steps
    (steps_then _ _ _ _ _ _ _ _ _ _ c.in_ok-carried.ensures.steps
    (steps_then _ _ _ _ _ _ _ _ _ _ c.in_ok-cpus.ensures.steps
    (steps_then _ _ _ _ _ _ _ _ _ _ last
    (steps_here (λ header. header.end) _ _ _ c.joined.result (ap found_header (sym c.joined.ensures)) (ap (λ (header : Header). header.end) c.joined.ensures) (omega (arith, last.inside, last.size))))))

pub returns-clause-allowed : goal.returns-clause-allowed
returns-clause-allowed g c =
    let opening = c.in_ok-opening.opening in
    subst IsHeader (sym c.joined.ensures)
    (header_allowed opening c.in_ok-carried.carried c.in_ok-cpus.cpus c.in_ok-sections.sections c.in_ok-sections.end c.in_ok-opening.ensures.allowed
    c.in_ok-carried.ensures.allowed c.in_ok-cpus.ensures.allowed c.in_ok-sections.ensures.allowed)
