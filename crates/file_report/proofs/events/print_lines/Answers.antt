use Rattle.std.proofs.Common.{◌≤◌, IfSome, arith}
use Rattle.std.specs.Prelude.{sum_by}
use Rattle.trace_outside.specs.Causes.{Rose, raised}
use Rattle.report_print.proofs.TimeEnds.{no_hole}
use Rattle.report_rounds.specs.Due as rounds
use Rattle.report_rounds.specs.Reports.{IsReport}
use Rattle.run_endings.specs.Outside.{sink_seen}
use Rattle.report_context.specs.Lines.{item_line}
use Rattle.report_rounds.proofs.UnusedLanes.{all_room}
use Rattle.file_report.proofs.RoundLanes.{over_lanes}
use Rattle.file_report.proofs.DueReading.{parts_read, parts_unbegun_unread, parts_unread}
use Rattle.file_report.proofs.PartsPrinted.{parts_unbegun, parts_written}
use Rattle.run_endings.proofs.Printed.{end_shows}
use Rattle.report_context.proofs.LineLength.{line_short}
use Rattle.report_context.proofs.Shared.{lines_sync}
use Rattle.file_report.proofs.events.print_lines.Goals as goal

pub report_rounds-requires-sync-L : goal.report_rounds-requires-sync-L
report_rounds-requires-sync-L g c κs live = record { shared = lines_sync.shared }

pub report_rounds-requires-clause-room : goal.report_rounds-requires-clause-room
report_rounds-requires-clause-room g c κs live =
    all_room (item_line c.args.shown.now.form.now.context) _ _ c.in-Ok-Ok.ensures.room (λ cpu item. omega (arith, line_short c.args.shown.now.form.now.context cpu item))

pub report_rounds-requires-clause-shown : goal.report_rounds-requires-clause-shown
report_rounds-requires-clause-shown g c κs live = λ cpu item none. no_hole c.args.shown.now.form.now.context cpu item none

pub returns-in-Err-clause-writes : goal.returns-in-Err-clause-writes
returns-in-Err-clause-writes g c = parts_unbegun c.args.shown.now.form.now.context c.args.shown.now.parts.now c.args.shown.now.recording _ _ _ c.in-Err.ensures.writes.prefix

pub returns-clause-writes : goal.returns-clause-writes
returns-clause-writes g c =
    parts_written c.args.shown.now.form.now.context c.args.shown.now.parts.now c.args.shown.now.recording _ _ _ _ c.report_rounds.result c.in-Ok.ensures.writes.gained
    (over_lanes (λ layout parts. IfSome (g.I.File.bytes c.args.file.now) (λ bytes. IsReport (item_line c.args.shown.now.form.now.context) layout bytes parts
    (g.O.Sink.written c.print_cpus.new.out) (g.O.Sink.written c.report_rounds.new.out) c.report_rounds.result)) c.in-Ok-Ok.lanes _ _ c.in-Ok-Ok.ensures.layout c.in-Ok-Ok.ensures.parts c.report_rounds.ensures.report)

pub returns-clause-shows : goal.returns-clause-shows
returns-clause-shows g c =
    end_shows _ c.report_rounds.result (sink_seen g.O.Sink c.args.out.now) (sink_seen g.O.Sink c.report_rounds.new.out) c.report_rounds.ensures.read (λ is.
    let rose : Rose (g.O.Sink.faults c.print_cpus.new.out) (g.O.Sink.faults c.report_rounds.new.out) = c.report_rounds.ensures.write is in
    omega (arith, rose, c.in-Ok.ensures.writes.cause.later))

pub returns-clause-reads : goal.returns-clause-reads
returns-clause-reads g c =
    over_lanes (λ layout parts. g.I.File.reads c.report_rounds.new.file ≤ raised (g.I.File.reads c.args.file.now) (sum_by (λ part. part.1.size) parts))
    c.in-Ok-Ok.lanes _ _ c.in-Ok-Ok.ensures.layout c.in-Ok-Ok.ensures.parts c.report_rounds.ensures.reads

pub returns-in-Err-clause-due : goal.returns-in-Err-clause-due
returns-in-Err-clause-due g c = parts_unbegun_unread c.args.shown.now.form.now.context c.args.shown.now.parts.now c.args.shown.now.recording _ _ _ _ c.in-Err.ensures.writes.prefix

pub returns-clause-due : goal.returns-clause-due
returns-clause-due g c =
    parts_read c.args.shown.now.form.now.context c.args.shown.now.parts.now c.args.shown.now.recording _ _ _ _ _ _ c.in-Ok.ensures.writes.gained
    (over_lanes (λ layout parts. IfSome (g.I.File.bytes c.args.file.now) (λ bytes. rounds.ReadsDue (item_line c.args.shown.now.form.now.context) layout bytes parts
    (g.O.Sink.written c.print_cpus.new.out) (g.O.Sink.written c.report_rounds.new.out) (g.I.File.reads c.args.file.now) (g.I.File.reads c.report_rounds.new.file)))
    c.in-Ok-Ok.lanes _ _ c.in-Ok-Ok.ensures.layout c.in-Ok-Ok.ensures.parts c.report_rounds.ensures.due)

pub returns-in_default-clause-due : goal.returns-in_default-clause-due
returns-in_default-clause-due g c = parts_unread c.args.shown.now.form.now.context c.args.shown.now.parts.now c.args.shown.now.recording _ _ _
