use Rattle.std.proofs.Common.{subst, sym, ◌∙◌}
use Rattle.multi_report.specs.Sources.{SourceView}
use Rattle.trace_outside.specs.Seen.{file_seen}
use Rattle.trace_args.specs.Command.{report_view}
use Rattle.run_endings.specs.Outside.{folder_seen}
use Rattle.several_report.specs.Opened.{IsOpened}
use Rattle.several_report.proofs.Opening.{closed_unopened, missing_unopened, opens_one, source_opened}
use Rattle.several_report.proofs.sources.open_source.Goals as goal

pub returns-in-Err-clause-unopened : goal.returns-in-Err-clause-unopened
returns-in-Err-clause-unopened g c =
    missing_unopened c.args.name.now _ _ c.open_file.result c.open_file.ensures.files c.open_file.ensures.counts c.in-Err.ensures.counts.opened c.in-Err.ensures.counts.failed c.open_file.ensures.requested

pub returns-in-Ok-read_basis-clause-opened : goal.returns-in-Ok-read_basis-clause-opened
returns-in-Ok-read_basis-clause-opened g c =
    let before = folder_seen g.F.Folder c.args.folder.now in
    let now = folder_seen g.F.Folder c.open_file.new.self in
    let words = report_view c.args.words.now in
    subst (λ (s : SourceView). IsOpened words c.args.name.now s before now) (sym c.source_on.ensures)
    (source_opened words c.args.name.now (file_seen g.F.In.File c.read_basis.new.file) (g.F.In.File.bytes c.in-Ok.file) (g.F.In.File.reads c.in-Ok.file)
    c.in-Ok-read_basis.basis before now c.open_file.ensures.files c.in-Ok.ensures.given c.read_basis.ensures.keeps.bytes c.in-Ok.ensures.no_reads c.in-Ok-read_basis.ensures.read
    (opens_one _ c.args.name.now _ _ c.open_file.result c.open_file.ensures.counts c.in-Ok.ensures.counts.opened) (c.in-Ok-read_basis.ensures.kept ∙ c.in-Ok.ensures.no_faults)
    (record { reading = c.in-Ok.ensures.counts.kept; writing = c.open_file.ensures.counts.writing }) c.open_file.ensures.requested c.open_file.ensures.counts.misses)

pub returns-in-Err-read_basis-clause-unopened : goal.returns-in-Err-read_basis-clause-unopened
returns-in-Err-read_basis-clause-unopened g c =
    closed_unopened c.args.name.now (g.F.In.File.bytes c.in-Ok.file) (g.F.In.File.faults c.in-Ok.file) (g.F.In.File.faults c.read_basis.new.file) (g.F.In.File.reads c.read_basis.new.file) _ _ _ c.open_file.result
    c.open_file.ensures.files c.close_file.ensures.files c.in-Ok.ensures.given c.open_file.ensures.counts c.in-Ok.ensures.counts.opened c.in-Ok.ensures.no_faults
    (record { reading = c.in-Ok.ensures.counts.kept; writing = c.open_file.ensures.counts.writing }) c.close_file.ensures.counts c.open_file.ensures.requested c.close_file.ensures.requested
    c.in-Err-read_basis.status c.in-Err-read_basis.ensures.unread
