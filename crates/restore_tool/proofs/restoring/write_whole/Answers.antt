use Rattle.std.proofs.Common.{length, map}
use Rattle.std.proofs.lemmas.Result.{err_from_is_err_and}
use Rattle.dat_header.specs.Written.{header_text}
use Rattle.trace_outside.specs.Seen.{file_seen}
use Rattle.restore_tool.specs.Copying.{text_of}
use Rattle.restore_tool.specs.Restored.{data_behind}
use Rattle.restore_tool.proofs.FilesKept.{keep_none}
use Rattle.restore_tool.proofs.Making.{wrote_all}
use Rattle.restore_tool.proofs.restoring.write_whole.Goals as goal

pub copy_files-requires-clause-page : goal.copy_files-requires-clause-page
copy_files-requires-clause-page g c = let page = c.requires.allowed.page in (page.0, page.2, page.3)

pub returns-clause-copies : goal.returns-clause-copies
returns-clause-copies g c = λ told.
    let text = header_text c.args.header.now c.args.parts.now in
    let behind = data_behind c.args.header.now.page (length text) (map text_of (map (file_seen g.D.In.File) c.args.files.now)) in
    wrote_all text behind _ _ _ c.copy_files.result c.in_ok-len.ensures.gained (c.copy_files.ensures.copies (length text) c.in_ok-len.ensures.len told)

pub returns-in_err-len-clause-keep : goal.returns-in_err-len-clause-keep
returns-in_err-len-clause-keep g c = keep_none (map (file_seen g.D.In.File) c.args.files.now)

pub returns-in_err-len-clause-cause : goal.returns-in_err-len-clause-cause
returns-in_err-len-clause-cause g c =
    let p = err_from_is_err_and c.from_residual.result c.from_residual.ensures.1 in
    rw (p.1, p.2) c.in_err-len.ensures.cause.failed
