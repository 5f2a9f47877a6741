use Rattle.std.proofs.Common.{◌≡◌, ◌∙◌, inl, length, map, arith}
use Rattle.std.proofs.lemmas.Result.{err_from_is_err_and}
use Rattle.trace_outside.specs.Seen.{file_seen}
use Rattle.restore_tool.specs.Copying.{text_of}
use Rattle.restore_tool.specs.Restored.{header_end, table_of}
use Rattle.new_files.proofs.Unmade.{unmade_finish}
use Rattle.restore_tool.proofs.Making.{caused_dropped, created_dropped, header_end_len, left_dropped, stored_is, unfinished_dropped, whole_is}
use Rattle.restore_tool.proofs.restoring.restore.Goals as goal

pub place_files-requires-clause-page : goal.place_files-requires-clause-page
place_files-requires-clause-page g c = let page = c.requires.allowed.page in (page.0, page.2, page.3)

pub returns-in_ok-finish_file-in-Ok-clause-leaves : goal.returns-in_ok-finish_file-in-Ok-clause-leaves
returns-in_ok-finish_file-in-Ok-clause-leaves g c = λ told.
    let header = c.args.header.now in
    let texts = map text_of (map (file_seen g.D.In.File) c.args.files.now) in
    let parts = c.place_files.new.parts in
    let each : length parts ≡ header.cpus = omega arith in
    let placed : parts ≡ table_of header texts = c.place_files.ensures (header_end header) (header_end_len header c.header_len.result c.header_len.ensures) told in
    stored_is (g.D.Folder.files c.args.folder.now) (g.D.Folder.files c.create_file.new.self) (g.D.Folder.files c.finish_file.new.self) c.args.name.now (g.D.Out.Sink.name c.write_whole.new.out)
    _ _ (g.D.Out.Sink.written c.in_ok-out.out) (g.D.Out.Sink.written c.write_whole.new.out)
    c.in_ok-out.ensures.files (c.write_whole.ensures.keeps_out.name ∙ c.in_ok-out.ensures.named) c.in_ok-out.ensures.empty (c.in-Ok.ensures.copies told) (whole_is header parts texts each placed) c.in_ok-finish_file-in-Ok.ensures.stored

pub returns-in_err-finish_file-in-Ok-clause-leaves : goal.returns-in_err-finish_file-in-Ok-clause-leaves
returns-in_err-finish_file-in-Ok-clause-leaves g c =
    let p = err_from_is_err_and c.from_residual-in_err-finish_file-in-Ok.result c.from_residual-in_err-finish_file-in-Ok.ensures.1 in
    rw (p.1, p.2) (unmade_finish _ _ _ c.args.name.now (g.D.Out.Sink.name c.write_whole.new.out) (g.D.Folder.files c.args.folder.now) (g.D.Folder.files c.create_file.new.self) (g.D.Folder.files c.finish_file.new.self)
    c.in_ok-out.ensures.files (c.write_whole.ensures.keeps_out.name ∙ c.in_ok-out.ensures.named) c.create_file.ensures.counts.unfinished c.in_err-finish_file-in-Ok.ensures.counts.unfinished c.in_err-finish_file-in-Ok.ensures.others)

pub returns-in_err-finish_file-in-Ok-clause-cause : goal.returns-in_err-finish_file-in-Ok-clause-cause
returns-in_err-finish_file-in-Ok-clause-cause g c =
    let p = err_from_is_err_and c.from_residual-in_err-finish_file-in-Ok.result c.from_residual-in_err-finish_file-in-Ok.ensures.1 in
    rw (p.1, p.2) (omega (arith, c.create_file.ensures.counts.writing, c.in_err-finish_file-in-Ok.ensures.counts.failed))

pub returns-in_err-finish_file-in-Ok-clause-created : goal.returns-in_err-finish_file-in-Ok-clause-created
returns-in_err-finish_file-in-Ok-clause-created g c =
    let p = err_from_is_err_and c.from_residual-in_err-finish_file-in-Ok.result c.from_residual-in_err-finish_file-in-Ok.ensures.1 in
    rw (p.1, p.2) (omega (arith, c.in_ok-out.ensures.counts.created, c.finish_file.ensures.counts.use_kept.created))

pub returns-in_err-finish_file-in-Ok-clause-unfinished : goal.returns-in_err-finish_file-in-Ok-clause-unfinished
returns-in_err-finish_file-in-Ok-clause-unfinished g c =
    let p = err_from_is_err_and c.from_residual-in_err-finish_file-in-Ok.result c.from_residual-in_err-finish_file-in-Ok.ensures.1 in
    let one = c.in_err-finish_file-in-Ok.ensures.counts.unfinished in
    rw (p.1, p.2) (omega (arith, c.create_file.ensures.counts.unfinished, one), omega (arith, c.create_file.ensures.counts.unfinished, one))

pub returns-in_err-out-clause-leaves : goal.returns-in_err-out-clause-leaves
returns-in_err-out-clause-leaves g c =
    let p = err_from_is_err_and c.from_residual.result c.from_residual.ensures.1 in
    rw (p.1, p.2) (inl c.create_file.ensures.files)

pub returns-in_err-out-clause-cause : goal.returns-in_err-out-clause-cause
returns-in_err-out-clause-cause g c =
    let p = err_from_is_err_and c.from_residual.result c.from_residual.ensures.1 in
    rw (p.1, p.2) c.in_err-out.ensures.counts.failed

pub returns-in_err-out-clause-created : goal.returns-in_err-out-clause-created
returns-in_err-out-clause-created g c =
    let p = err_from_is_err_and c.from_residual.result c.from_residual.ensures.1 in
    rw (p.1, p.2) (omega (arith, c.in_err-out.ensures.counts.created))

pub returns-in_err-out-clause-unfinished : goal.returns-in_err-out-clause-unfinished
returns-in_err-out-clause-unfinished g c =
    let p = err_from_is_err_and c.from_residual.result c.from_residual.ensures.1 in
    rw (p.1, p.2) (omega (arith, c.create_file.ensures.counts.unfinished), omega (arith, c.create_file.ensures.counts.unfinished))

pub returns-in-Err-clause-leaves : goal.returns-in-Err-clause-leaves
returns-in-Err-clause-leaves g c =
    left_dropped c.args.header.now (map (file_seen g.D.In.File) c.args.files.now) c.args.name.now (g.D.Folder.counts c.args.folder.now) (g.D.Folder.counts c.drop_file.new.self)
    (g.D.Folder.files c.args.folder.now) (g.D.Folder.files c.drop_file.new.self) c.in-Err.fault (c.drop_file.ensures.files ∙ c.create_file.ensures.files)

pub returns-in-Err-clause-cause : goal.returns-in-Err-clause-cause
returns-in-Err-clause-cause g c =
    caused_dropped c.in-Err.fault (map (file_seen g.D.In.File) c.args.files.now) (map (file_seen g.D.In.File) c.write_whole.new.files) (g.D.Out.Sink.faults c.in_ok-out.out) (g.D.Out.Sink.faults c.write_whole.new.out)
    (g.D.Folder.counts c.args.folder.now).writing (g.D.Folder.counts c.create_file.new.self).writing (g.D.Folder.counts c.drop_file.new.self).writing c.create_file.ensures.counts.writing c.drop_file.ensures.counts.faulty c.in-Err.ensures.cause

pub returns-in-Err-clause-created : goal.returns-in-Err-clause-created
returns-in-Err-clause-created g c =
    created_dropped c.in-Err.fault (g.D.Folder.counts c.args.folder.now).created (g.D.Folder.counts c.drop_file.new.self).created (c.drop_file.ensures.counts.use_kept.created ∙ c.in_ok-out.ensures.counts.created)

pub returns-in-Err-clause-unfinished : goal.returns-in-Err-clause-unfinished
returns-in-Err-clause-unfinished g c =
    unfinished_dropped c.in-Err.fault (g.D.Folder.counts c.args.folder.now).unfinished (g.D.Folder.counts c.drop_file.new.self).unfinished (c.drop_file.ensures.counts.unfinished ∙ c.create_file.ensures.counts.unfinished)
