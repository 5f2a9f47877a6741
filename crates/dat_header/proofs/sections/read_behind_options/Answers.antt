use Rattle.std.proofs.Common.{refl, arith}
use Rattle.std.proofs.lemmas.Result.{err_from_is_err_and}
use Rattle.dat_header.specs.Header.{behind_options_at}
use Rattle.dat_header.proofs.Steps.{steps_then, steps_failed, steps_here, steps_found, steps_fault}
use Rattle.dat_header.proofs.sections.read_behind_options.Goals as goal

pub returns-in_err-options-clause-steps : goal.returns-in_err-options-clause-steps
unfolding behind_options_at
returns-in_err-options-clause-steps g c =
    let p = err_from_is_err_and c.from_residual.result c.from_residual.ensures.1 in
    let found = c.in_err-options.ensures in
    rw (p.1, p.2) (steps_failed _ _ _ _ _ _ _ _ (steps_fault _ _ _ _ _ _ found.exact found.keeps.bytes found.keeps.size found.keeps.later found.cause found.kept found.most))

pub returns-in_err-last-clause-steps : goal.returns-in_err-last-clause-steps
unfolding behind_options_at
returns-in_err-last-clause-steps g c =
    let p = err_from_is_err_and c.from_residual-in_err-last.result c.from_residual-in_err-last.ensures.1 in
    let found = c.in_ok-options.ensures in
    rw (p.1, p.2) (steps_then _ _ _ _ _ _ _ _ _ _ (steps_found _ _ _ _ _ _ found.exact found.keeps.bytes found.keeps.size found.kept (omega (arith, found.reads)) (omega (arith, found.behind)) found.inside) (steps_failed _ _ _ _ _ _ _ _ c.in_err-last.ensures))

pub returns-in_err-body-clause-steps : goal.returns-in_err-body-clause-steps
unfolding behind_options_at
returns-in_err-body-clause-steps g c =
    let p = err_from_is_err_and c.from_residual-in_err-body.result c.from_residual-in_err-body.ensures.1 in
    let found = c.in_ok-options.ensures in
    rw (p.1, p.2) (steps_then _ _ _ _ _ _ _ _ _ _ (steps_found _ _ _ _ _ _ found.exact found.keeps.bytes found.keeps.size found.kept (omega (arith, found.reads)) (omega (arith, found.behind)) found.inside) (steps_then _ _ _ _ _ _ _ _ _ _ c.in_ok-last.ensures (steps_failed _ _ _ _ _ _ _ _ c.in_err-body.ensures.steps)))

pub returns-clause-steps : goal.returns-clause-steps
unfolding behind_options_at
returns-clause-steps g c =
    let found = c.in_ok-options.ensures in
    let last = c.in_ok-body.ensures.steps in
    steps_then _ _ _ _ _ _ _ _ _ _ (steps_found _ _ _ _ _ _ found.exact found.keeps.bytes found.keeps.size found.kept (omega (arith, found.reads)) (omega (arith, found.behind)) found.inside)
    (steps_then _ _ _ _ _ _ _ _ _ _ c.in_ok-last.ensures (steps_then _ _ _ _ _ _ _ _ _ _ last (steps_here _ _ _ _ _ refl refl (omega (arith, last.inside, last.size)))))
