use Rattle.std.proofs.Common.{Err, ap, refl, sym, ◌∙◌}
use Rattle.run_endings.specs.declared.status.Status.TheVariants.{WriteFault}
use Rattle.file_report.specs.Meaning.{calls_report}
use Rattle.file_report.specs.Report.{events_on}
use Rattle.file_report.proofs.CallsPrinted.{calls_written, calls_unwritten, cut_no_fault, cut_shows}
use Rattle.run_endings.proofs.Faultless.{cut_kept, pass_kept}
use Rattle.run_endings.proofs.Printed.{pass_printed, printed_of}
use Rattle.file_report.proofs.calls.print_calls.Goals as goal

pub returns-in-Err-clause-prints : goal.returns-in-Err-clause-prints
returns-in-Err-clause-prints g c =
    rw c.status_of_pass.ensures
    (pass_printed _ (λ bytes. calls_report (events_on c.args.shown.now.form.now.context c.args.shown.now.parts.now c.args.shown.now.recording bytes)) _ c.in-Err.fault _ (λ bytes. refl)
    (λ is. c.in-Err.ensures.read (ap Err is)))

pub returns-in-Err-clause-kept : goal.returns-in-Err-clause-kept
returns-in-Err-clause-kept g c = rw c.status_of_pass.ensures (pass_kept _ _ c.in-Err.fault c.in-Err.ensures.kept)

pub returns-in-Ok-put_whole-clause-kept : goal.returns-in-Ok-put_whole-clause-kept
returns-in-Ok-put_whole-clause-kept g c = rw c.status_of_cut.ensures (cut_kept _ c.in-Ok.calls.cut)

pub returns-in-Ok-put_whole-clause-prints : goal.returns-in-Ok-put_whole-clause-prints
returns-in-Ok-put_whole-clause-prints g c =
    rw c.status_of_cut.ensures
    (printed_of _ (λ bytes. calls_report (events_on c.args.shown.now.form.now.context c.args.shown.now.parts.now c.args.shown.now.recording bytes)) _ _ _ _ (λ bytes. refl)
    (calls_written c.args.shown.now.form.now.context c.args.shown.now.parts.now c.args.shown.now.recording _ _ _ c.in-Ok.calls.cut _ _ c.as_slice-list.ensures.value c.in-Ok.ensures.list c.in-Ok.ensures.cut c.in-Ok-put_whole.ensures.gained)
    (cut_shows _ c.in-Ok.calls.cut _ _))

pub returns-clause-prints : goal.returns-clause-prints
returns-clause-prints g c =
    printed_of _ (λ bytes. calls_report (events_on c.args.shown.now.form.now.context c.args.shown.now.parts.now c.args.shown.now.recording bytes)) _ WriteFault _ _ (λ bytes. refl)
    (calls_unwritten c.args.shown.now.form.now.context c.args.shown.now.parts.now c.args.shown.now.recording _ _ _ _ _ c.as_slice-list.ensures.value c.in-Ok.ensures.list c.in-Err-put_whole.ensures.prefix)
    c.in-Err-put_whole.ensures.cause.failed

pub returns-in-Ok-put_whole-clause-gathers : goal.returns-in-Ok-put_whole-clause-gathers
returns-in-Ok-put_whole-clause-gathers g c = λ unread. absurd (cut_no_fault c.in-Ok.calls.cut (sym c.status_of_cut.ensures ∙ unread))

pub returns-clause-gathers : goal.returns-clause-gathers
returns-clause-gathers g c = λ unread. absurd cc
