use Rattle.std.proofs.Common.{ap, refl, sym, arith, List, ℕ, Option, None, Some}
use Rattle.std.proofs.lemmas.Result.{err_from_is_err_and}
use Rattle.dat_header.specs.declared.pieces.LastSection.{LastSection}
use Rattle.dat_header.specs.Header.{sections_at, behind_first_at}
use Rattle.dat_header.proofs.Steps.{steps_then, steps_failed, steps_here, steps_same}
use Rattle.dat_header.proofs.sections.read_sections.Goals as goal

pub returns-in_err-first-clause-steps : goal.returns-in_err-first-clause-steps
unfolding sections_at
returns-in_err-first-clause-steps g c =
    let p = err_from_is_err_and c.from_residual.result c.from_residual.ensures.1 in
    rw (p.1, p.2) (steps_failed _ _ _ _ _ _ _ _ c.in_err-first.ensures)

pub returns-in-None-clause-steps : goal.returns-in-None-clause-steps
unfolding sections_at
returns-in-None-clause-steps g c =
    let e = c.args in
    let after = c.in_ok-first.after in
    steps_then _ _ _ _ _ _ _ _ _ _ c.in_ok-first.ensures
    (steps_same _ (λ (bytes : List ℕ). behind_first_at e.order e.cpus None bytes after) _ _ _ _ _ (λ bytes. ap (λ (first : Option LastSection). behind_first_at e.order e.cpus first bytes after) (sym c.in-None.is)) c.read_behind_options.ensures.steps)

pub returns-in_err-body-in-Some-clause-steps : goal.returns-in_err-body-in-Some-clause-steps
unfolding sections_at
returns-in_err-body-in-Some-clause-steps g c =
    let e = c.args in
    let after = c.in_ok-first.after in
    let p = err_from_is_err_and c.from_residual-in_err-body-in-Some.result c.from_residual-in_err-body-in-Some.ensures.1 in
    rw (p.1, p.2) (steps_then _ _ _ _ _ _ _ _ _ _ c.in_ok-first.ensures
    (steps_same _ (λ (bytes : List ℕ). behind_first_at e.order e.cpus (Some c.in-Some.last) bytes after) _ _ _ _ _ (λ bytes. ap (λ (first : Option LastSection). behind_first_at e.order e.cpus first bytes after) (sym c.in-Some.is))
    (steps_failed _ _ _ _ _ _ _ _ c.in_err-body-in-Some.ensures.steps)))

pub returns-in_ok-body-in-Some-clause-steps : goal.returns-in_ok-body-in-Some-clause-steps
unfolding sections_at
returns-in_ok-body-in-Some-clause-steps g c =
    let e = c.args in
    let after = c.in_ok-first.after in
    let last = c.in_ok-body-in-Some.ensures.steps in
    steps_then _ _ _ _ _ _ _ _ _ _ c.in_ok-first.ensures
    (steps_same _ (λ (bytes : List ℕ). behind_first_at e.order e.cpus (Some c.in-Some.last) bytes after) _ _ _ _ _ (λ bytes. ap (λ (first : Option LastSection). behind_first_at e.order e.cpus first bytes after) (sym c.in-Some.is))
    (steps_then _ _ _ _ _ _ _ _ _ _ last (steps_here _ _ _ _ _ refl refl (omega (arith, last.inside, last.size)))))
