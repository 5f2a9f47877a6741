use Rattle.std.proofs.Common.{refl, arith}
use Rattle.std.proofs.lemmas.Result.{err_from_is_err_and}
use Rattle.dat_header.specs.Opening.{described_at}
use Rattle.dat_header.proofs.Steps.{steps_then, steps_failed, steps_here}
use Rattle.dat_header.proofs.carried.read_described.Goals as goal

pub returns-in_err-event_text-clause-steps : goal.returns-in_err-event_text-clause-steps
unfolding described_at
returns-in_err-event_text-clause-steps g c =
    let p = err_from_is_err_and c.from_residual.result c.from_residual.ensures.1 in
    rw (p.1, p.2) (steps_failed _ _ _ _ _ _ _ _ c.in_err-event_text.ensures.steps)

pub returns-in_err-ftrace-clause-steps : goal.returns-in_err-ftrace-clause-steps
unfolding described_at
returns-in_err-ftrace-clause-steps g c =
    let p = err_from_is_err_and c.from_residual-in_err-ftrace.result c.from_residual-in_err-ftrace.ensures.1 in
    rw (p.1, p.2) (steps_then _ _ _ _ _ _ _ _ _ _ c.in_ok-event_text.ensures.steps (steps_failed _ _ _ _ _ _ _ _ c.in_err-ftrace.ensures.steps))

pub returns-in_err-systems-clause-steps : goal.returns-in_err-systems-clause-steps
unfolding described_at
returns-in_err-systems-clause-steps g c =
    let p = err_from_is_err_and c.from_residual-in_err-systems.result c.from_residual-in_err-systems.ensures.1 in
    rw (p.1, p.2) (steps_then _ _ _ _ _ _ _ _ _ _ c.in_ok-event_text.ensures.steps (steps_then _ _ _ _ _ _ _ _ _ _ c.in_ok-ftrace.ensures.steps (steps_failed _ _ _ _ _ _ _ _ c.in_err-systems.ensures.steps)))

pub returns-in_err-kallsyms-clause-steps : goal.returns-in_err-kallsyms-clause-steps
unfolding described_at
returns-in_err-kallsyms-clause-steps g c =
    let p = err_from_is_err_and c.from_residual-in_err-kallsyms.result c.from_residual-in_err-kallsyms.ensures.1 in
    rw (p.1, p.2) (steps_then _ _ _ _ _ _ _ _ _ _ c.in_ok-event_text.ensures.steps (steps_then _ _ _ _ _ _ _ _ _ _ c.in_ok-ftrace.ensures.steps (steps_then _ _ _ _ _ _ _ _ _ _ c.in_ok-systems.ensures.steps (steps_failed _ _ _ _ _ _ _ _ c.in_err-kallsyms.ensures.steps))))

pub returns-in_err-printk-clause-steps : goal.returns-in_err-printk-clause-steps
unfolding described_at
returns-in_err-printk-clause-steps g c =
    let p = err_from_is_err_and c.from_residual-in_err-printk.result c.from_residual-in_err-printk.ensures.1 in
    rw (p.1, p.2) (steps_then _ _ _ _ _ _ _ _ _ _ c.in_ok-event_text.ensures.steps (steps_then _ _ _ _ _ _ _ _ _ _ c.in_ok-ftrace.ensures.steps (steps_then _ _ _ _ _ _ _ _ _ _ c.in_ok-systems.ensures.steps (steps_then _ _ _ _ _ _ _ _ _ _ c.in_ok-kallsyms.ensures.steps (steps_failed _ _ _ _ _ _ _ _ c.in_err-printk.ensures.steps)))))

pub returns-clause-steps : goal.returns-clause-steps
unfolding described_at
returns-clause-steps g c =
    let last = c.in_ok-printk.ensures.steps in
    steps_then _ _ _ _ _ _ _ _ _ _ c.in_ok-event_text.ensures.steps (steps_then _ _ _ _ _ _ _ _ _ _ c.in_ok-ftrace.ensures.steps (steps_then _ _ _ _ _ _ _ _ _ _ c.in_ok-systems.ensures.steps (steps_then _ _ _ _ _ _ _ _ _ _ c.in_ok-kallsyms.ensures.steps (steps_then _ _ _ _ _ _ _ _ _ _ c.in_ok-printk.ensures.steps (steps_here _ _ _ _ _ refl refl (omega (arith, last.inside, last.size)))))))
