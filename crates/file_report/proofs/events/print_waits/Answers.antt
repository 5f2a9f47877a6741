use Rattle.std.proofs.Common.{List, ℕ, Option, Err, refl, ap, sym, subst, ◌∙◌, arith}
use Rattle.run_endings.specs.declared.status.Status.TheVariants.{WriteFault}
use Rattle.run_endings.specs.Output.{WritesFor}
use Rattle.run_endings.specs.Ends.{status_of_end}
use Rattle.run_endings.proofs.Faultless.{end_kept, pass_kept}
use Rattle.run_endings.proofs.Printed.{pass_printed, printed_of}
use Rattle.file_report.proofs.Waits.{both, lines, stopped_shows, waits_shows, waits_stopped, waits_unwritten, waits_written}
use Rattle.file_report.proofs.events.print_waits.Goals as goal

pub returns-in-Err-clause-prints : goal.returns-in-Err-clause-prints
returns-in-Err-clause-prints g c =
    rw c.status_of_pass.ensures
    (pass_printed _ (both c.args.shown.now.form.now.context c.args.shown.now.parts.now c.args.shown.now.recording) _ c.in-Err.fault _ (λ bytes. refl)
    (λ is. c.in-Err.ensures.read (ap Err is)))

pub returns-in-Err-clause-kept : goal.returns-in-Err-clause-kept
returns-in-Err-clause-kept g c = rw c.status_of_pass.ensures (pass_kept _ _ c.in-Err.fault c.in-Err.ensures.kept)

pub returns-then-not-is_whole-clause-kept : goal.returns-then-not-is_whole-clause-kept
returns-then-not-is_whole-clause-kept g c = rw c.status_of_end.ensures (end_kept _ c.in-Some.end)

pub returns-in-Ok-print_section-clause-kept : goal.returns-in-Ok-print_section-clause-kept
returns-in-Ok-print_section-clause-kept g c = rw c.status_of_end-in-Ok-print_section.ensures (end_kept _ c.in-Some.end)

pub returns-then-not-is_whole-clause-prints : goal.returns-then-not-is_whole-clause-prints
returns-then-not-is_whole-clause-prints g c =
    let writes = subst (λ (told : Option (List ℕ)). WritesFor (lines c.args.shown.now.form.now.context c.args.shown.now.parts.now c.args.shown.now.recording) told (status_of_end c.in-Some.end)
    (g.O.Sink.written c.args.out.now) (g.O.Sink.written c.print_lines.new.out)) c.gather.ensures.keeps.bytes c.in-Some.ensures.writes in
    rw c.status_of_end.ensures
    (printed_of _ (both c.args.shown.now.form.now.context c.args.shown.now.parts.now c.args.shown.now.recording) _ (status_of_end c.in-Some.end) _ _ (λ bytes. refl)
    (waits_stopped c.args.shown.now.form.now.context c.args.shown.now.parts.now c.args.shown.now.recording _ _ _ c.in-Some.end (sym c.is_whole.ensures ∙ c.if-not-is_whole.true) writes)
    (stopped_shows c.args.shown.now.form.now.context c.args.shown.now.parts.now c.args.shown.now.recording _ _ c.in-Some.end _ _ (λ rose. omega (arith, rose, c.gather.ensures.keeps.later)) c.in-Some.ensures.shows))

pub returns-in-Ok-print_section-clause-prints : goal.returns-in-Ok-print_section-clause-prints
returns-in-Ok-print_section-clause-prints g c =
    let writes = subst (λ (told : Option (List ℕ)). WritesFor (lines c.args.shown.now.form.now.context c.args.shown.now.parts.now c.args.shown.now.recording) told (status_of_end c.in-Some.end)
    (g.O.Sink.written c.args.out.now) (g.O.Sink.written c.print_lines.new.out)) c.gather.ensures.keeps.bytes c.in-Some.ensures.writes in
    rw c.status_of_end-in-Ok-print_section.ensures
    (printed_of _ (both c.args.shown.now.form.now.context c.args.shown.now.parts.now c.args.shown.now.recording) _ (status_of_end c.in-Some.end) _ _ (λ bytes. refl)
    (waits_written c.args.shown.now.form.now.context c.args.shown.now.parts.now c.args.shown.now.recording _ _ _ _ c.in-Some.end c.in-Ok.wakeups.pairs (sym c.is_whole.ensures ∙ c.if-not-is_whole.false) writes c.in-Ok.ensures.pairs c.in-Ok-print_section.ensures.gained)
    (waits_shows c.args.shown.now.form.now.context c.args.shown.now.parts.now c.args.shown.now.recording _ c.in-Some.end _ _ (sym c.is_whole.ensures ∙ c.if-not-is_whole.false)))

pub returns-clause-prints : goal.returns-clause-prints
returns-clause-prints g c =
    let writes = subst (λ (told : Option (List ℕ)). WritesFor (lines c.args.shown.now.form.now.context c.args.shown.now.parts.now c.args.shown.now.recording) told (status_of_end c.in-Some.end)
    (g.O.Sink.written c.args.out.now) (g.O.Sink.written c.print_lines.new.out)) c.gather.ensures.keeps.bytes c.in-Some.ensures.writes in
    printed_of _ (both c.args.shown.now.form.now.context c.args.shown.now.parts.now c.args.shown.now.recording) _ WriteFault _ _ (λ bytes. refl)
    (waits_unwritten c.args.shown.now.form.now.context c.args.shown.now.parts.now c.args.shown.now.recording _ _ _ _ c.in-Some.end c.in-Ok.wakeups.pairs (sym c.is_whole.ensures ∙ c.if-not-is_whole.false) writes c.in-Ok.ensures.pairs c.in-Err-print_section.ensures.prefix)
    (omega (arith, c.in-Err-print_section.ensures.cause.failed, c.in-Some.ensures.out_later))
