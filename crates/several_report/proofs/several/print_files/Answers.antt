use Rattle.std.proofs.Common.{map}
use Rattle.trace_args.specs.Command.{report_view}
use Rattle.run_endings.specs.declared.status.Status.TheVariants.{NoMemory}
use Rattle.several_report.specs.OpenInput.{file_in, source_seen}
use Rattle.several_report.proofs.FilesRan.{files_unbegun, shown_ran}
use Rattle.several_report.proofs.InputNames.{first_of, named_any}
use Rattle.several_report.proofs.several.print_files.Goals as goal
use Rattle.several_report.proofs.Unread.{unread_later}
use Rattle.run_endings.specs.Outside.{folder_seen}

pub returns-in_default-clause-ran : goal.returns-in_default-clause-ran
returns-in_default-clause-ran g c = files_unbegun (report_view c.args.words.now) _

pub returns-in_default-clause-named : goal.returns-in_default-clause-named
returns-in_default-clause-named g c = named_any (report_view c.args.words.now) _ _ NoMemory (first_of (report_view c.args.words.now)) (λ inputs. tt)

pub returns-clause-ran : goal.returns-clause-ran
returns-clause-ran g c =
    shown_ran (report_view c.args.words.now) (map file_in (map (source_seen g.F.In.File) c.print_opened-end.new.sources.items)) c.print_opened-end.result.status c.print_opened-end.result.file.now
    _ _ _ _ _ c.print_opened-end.ensures c.close_sources.ensures.counts c.close_sources.ensures.files c.close_sources.ensures.requested

pub returns-clause-named : goal.returns-clause-named
returns-clause-named g c = c.print_opened-end.ensures.named

pub returns-clause-unread : goal.returns-clause-unread
returns-clause-unread g c =
    unread_later (report_view c.args.words.now) _ c.print_opened-end.result.status c.print_opened-end.result.file.now
    (folder_seen g.F.Folder c.args.folder.now) (folder_seen g.F.Folder c.print_opened-end.new.folder) (folder_seen g.F.Folder c.close_sources.new.folder)
    c.close_sources.ensures.counts.misses c.print_opened-end.ensures.unread
