use Rattle.std.proofs.Common.{Ok, arith, map, refl, subst, sym}
use Rattle.multi_report.specs.declared.report.FilesEnd.TheVariants as end
use Rattle.trace_args.specs.Command.{report_view}
use Rattle.run_endings.specs.declared.status.Status.{Status}
use Rattle.run_endings.specs.Outside.{beside, sink_seen}
use Rattle.several_report.specs.OpenInput.{file_in, source_seen}
use Rattle.several_report.specs.Reported.{FilesReported}
use Rattle.several_report.proofs.FilesShown.{files_shown, files_unheld, lines_room}
use Rattle.several_report.proofs.InputNames.{first_of}
use Rattle.report_context.proofs.Shared.{lines_sync}
use Rattle.several_report.proofs.several.print_sources.Goals as goal

pub report_files-end-requires-sync-L : goal.report_files-end-requires-sync-L
report_files-end-requires-sync-L g c κs live = record { shared = lines_sync.shared }

pub report_files-end-requires-clause-room : goal.report_files-end-requires-clause-room
report_files-end-requires-clause-room g c κs live = lines_room g.I.File _ c.args.sources.now (omega arith)

pub returns-in_default : goal.returns-in_default
returns-in_default g c = λ before now opened. files_unheld (report_view c.args.words.now) _ _ before now _ _ (Ok end.Done) _ opened (first_of (report_view c.args.words.now)) refl refl

pub returns : goal.returns
returns g c = λ before now opened.
    let words = report_view c.args.words.now in
    let out = sink_seen g.O.Sink c.args.out.now in
    let out_now = sink_seen g.O.Sink c.report_files-end.new.out in
    let new = map (source_seen g.I.File) c.report_files-end.new.sources in
    subst (λ (s : Status). FilesReported words (map file_in new) s c.job_end_of.result.file.now (beside before out) (beside now out_now)) (sym c.job_end_of.ensures.status)
    (files_shown words (map (source_seen g.I.File) c.args.sources.now) new before now out out_now c.report_files-end.result c.job_end_of.result.file.now opened c.job_end_of.ensures.named c.job_end_of.ensures.source
    c.report_files-end.ensures.report c.report_files-end.ensures.read c.report_files-end.ensures.write c.report_files-end.ensures.reads c.report_files-end.ensures.same)
