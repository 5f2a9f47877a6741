use Rattle.std.proofs.Common.{refl}
use Rattle.file_report.specs.Meaning.{events_report}
use Rattle.file_report.specs.Report.{events_on}
use Rattle.file_report.specs.Reported.{at_work}
use Rattle.file_report.proofs.Reports.{calls_reported, lines_reported, waits_reported}
use Rattle.file_report.proofs.Waits.{lines_prints}
use Rattle.run_endings.proofs.Faultless.{begun_kept}
use Rattle.file_report.proofs.report.print_shown.Goals as goal

pub returns-then-calls : goal.returns-then-calls
returns-then-calls g c =
    calls_reported c.args.shown.now.form.now.context c.args.shown.now.parts.now c.args.shown.now.recording _
    (at_work g.I.File g.O.Sink c.args.file.now c.args.out.now) (at_work g.I.File g.O.Sink c.print_calls.new.file c.print_calls.new.out) _ _ c.print_calls.result
    c.if-calls.true c.print_calls.ensures.prints c.print_calls.ensures.reads c.print_calls.ensures.gathers c.print_calls.ensures.kept

pub returns-then-wakeups : goal.returns-then-wakeups
returns-then-wakeups g c =
    waits_reported c.args.shown.now.form.now.context c.args.shown.now.parts.now c.args.shown.now.recording _
    (at_work g.I.File g.O.Sink c.args.file.now c.args.out.now) (at_work g.I.File g.O.Sink c.print_waits.new.file c.print_waits.new.out) _ _ c.print_waits.result
    c.if-calls.false c.if-wakeups.true c.print_waits.ensures.prints c.print_waits.ensures.reads c.print_waits.ensures.kept

pub returns : goal.returns
returns g c =
    rw c.status_or_memory.ensures
    (lines_reported c.args.shown.now.form.now.context c.args.shown.now.parts.now c.args.shown.now.recording _
    (at_work g.I.File g.O.Sink c.args.file.now c.args.out.now) (at_work g.I.File g.O.Sink c.print_lines.new.file c.print_lines.new.out) _ _ _
    c.if-calls.false c.if-wakeups.false
    (lines_prints _ (λ bytes. events_report (events_on c.args.shown.now.form.now.context c.args.shown.now.parts.now c.args.shown.now.recording bytes)) _ c.print_lines.result _ _ (λ bytes. refl) c.print_lines.ensures.writes c.print_lines.ensures.shows c.print_lines.ensures.untouched)
    c.print_lines.ensures.reads c.print_lines.ensures.due (begun_kept _ c.print_lines.result c.print_lines.ensures.kept))
