use Rattle.std.proofs.Common.{ap, sym, refl, ◌∙◌, List, ℕ, arith}
use Rattle.std.proofs.lemmas.Result.{err_from_is_err_and}
use Rattle.dat_header.specs.PageText.{layout_of}
use Rattle.dat_header.specs.Opening.{page_text_at}
use Rattle.dat_header.proofs.Values.{checked_is, checked_not}
use Rattle.dat_header.proofs.Steps.{steps_then, steps_failed, steps_here, steps_wrong}
use Rattle.dat_header.proofs.layout.read_page_text.Goals as goal

pub returns-in_err-size-clause-steps : goal.returns-in_err-size-clause-steps
unfolding page_text_at
returns-in_err-size-clause-steps g c =
    let p = err_from_is_err_and c.from_residual.result c.from_residual.ensures.1 in
    rw (p.1, p.2) (steps_failed _ _ _ _ _ _ _ _ c.in_err-size.ensures)

pub returns-in_err-text-clause-steps : goal.returns-in_err-text-clause-steps
unfolding page_text_at
returns-in_err-text-clause-steps g c =
    let p = err_from_is_err_and c.from_residual-in_err-text.result c.from_residual-in_err-text.ensures.1 in
    rw (p.1, p.2) (steps_then _ _ _ _ _ _ _ _ _ _ c.in_ok-size.ensures (steps_failed _ _ _ _ _ _ _ _ c.in_err-text.ensures.steps))

pub returns-in-Some-clause-steps : goal.returns-in-Some-clause-steps
unfolding page_text_at
returns-in-Some-clause-steps g c =
    let m = c.args.machine.now in
    let same = ap (λ (t : List ℕ). layout_of m.order m.long m.page t) (sym c.as_bytes.ensures) in
    let last = c.in_ok-text.ensures.steps in
    steps_then _ _ _ _ _ _ _ _ _ _ c.in_ok-size.ensures (steps_then _ _ _ _ _ _ _ _ _ _ last (steps_here _ _ _ _ _ (checked_is _ _ _ _ (same ∙ sym c.in-Some.ensures)) refl (omega (arith, last.inside, last.size))))

pub returns-in-None-clause-steps : goal.returns-in-None-clause-steps
unfolding page_text_at
returns-in-None-clause-steps g c =
    let m = c.args.machine.now in
    let same = ap (λ (t : List ℕ). layout_of m.order m.long m.page t) (sym c.as_bytes.ensures) in
    steps_then _ _ _ _ _ _ _ _ _ _ c.in_ok-size.ensures (steps_then _ _ _ _ _ _ _ _ _ _ c.in_ok-text.ensures.steps (steps_wrong _ _ _ _ _ (checked_not _ _ _ (same ∙ sym c.in-None.ensures)) tt))
