use Rattle.std.proofs.Common.{◌≡◌, ◌≢◌, ◌∙◌, ℕ, List, Err, inl, inr, ap, refl}
use Rattle.std.proofs.lemmas.Result.{err_from_is_err_and}
use Rattle.trace_outside.specs.Memory.{KeepsFaults}
use Rattle.trace_outside.specs.Names.{NamedFiles}
use Rattle.dat_header.specs.Partial.{partial_of}
use Rattle.restore_tool.specs.Asked.{asked_behind}
use Rattle.restore_tool.specs.Meaning.{IsDone, Task, missing, names_view, with_header}
use Rattle.restore_tool.proofs.Answered.{causes_more, header_done}
use Rattle.restore_tool.proofs.Asking.{memory_map, no_faults, unread_asks, unread_memory}
use Rattle.restore_tool.proofs.Failures.{header_unread}
use Rattle.restore_tool.proofs.Reading.{header_within, made_anyhow, nothing_within, unread_unmade}
use Rattle.restore_tool.proofs.Unread.{closes_nothing, partial_unread, same_misses, texts_misses, unread_causes, unread_created, unread_kept}
use Rattle.restore_tool.proofs.named.restore_from.Goals as goal

pub returns-clause-done : goal.returns-clause-done
returns-clause-done g c =
    header_done (names_view c.args.names.now) (g.D.Folder.files c.args.folder.now) (g.D.Folder.files c.args.folder.now) (g.D.In.File.bytes c.args.partial.now) c.in_ok-header.header
    (λ (named : NamedFiles) (task : Task). IsDone task c.args.names.now.output.now (g.D.Folder.counts c.args.folder.now) (g.D.Folder.counts c.restore_under.new.folder) named (g.D.Folder.files c.restore_under.new.folder) c.restore_under.result)
    c.in_ok-header.ensures.answer c.restore_under.ensures.done

pub returns-clause-causes : goal.returns-clause-causes
returns-clause-causes g c = causes_more c.restore_under.result _ _ _ _ (λ rose. inl rose) (λ rose. rose) c.restore_under.ensures.causes

pub returns-clause-misses : goal.returns-clause-misses
returns-clause-misses g c =
    let before = (g.D.Folder.counts c.args.folder.now).misses in
    let now = (g.D.Folder.counts c.restore_under.new.folder).misses in
    let names = names_view c.args.names.now in
    header_done names (g.D.Folder.files c.args.folder.now) (g.D.Folder.files c.args.folder.now) (g.D.In.File.bytes c.args.partial.now) c.in_ok-header.header
    (λ (named : NamedFiles) (task : Task). task ≢ missing → now ≡ before) c.in_ok-header.ensures.answer
    (texts_misses names.files c.in_ok-header.header names.output (g.D.Folder.files c.args.folder.now) before now c.restore_under.ensures.misses)

pub returns-in_err-header-clause-done : goal.returns-in_err-header-clause-done
returns-in_err-header-clause-done g c =
    let p = err_from_is_err_and c.from_residual.result c.from_residual.ensures.1 in
    let counts = g.D.Folder.counts c.args.folder.now in
    rw (p.1, p.2) (partial_unread (names_view c.args.names.now) c.args.names.now.output.now counts counts (g.D.Folder.files c.args.folder.now) _ (g.D.In.File.bytes c.args.partial.now) _ c.in_err-header.ensures.answer refl refl)

pub returns-in_err-header-clause-causes : goal.returns-in_err-header-clause-causes
returns-in_err-header-clause-causes g c =
    let p = err_from_is_err_and c.from_residual.result c.from_residual.ensures.1 in
    rw (p.1, p.2) (unread_causes c.in_err-header.field-0.0 _ _ (λ is. inr (c.read_partial.ensures.file.cause (c.in_err-header.was ∙ ap Err is))))

pub returns-in_err-header-clause-created : goal.returns-in_err-header-clause-created
returns-in_err-header-clause-created g c =
    let p = err_from_is_err_and c.from_residual.result c.from_residual.ensures.1 in
    rw (p.1, p.2) (unread_created c.in_err-header.field-0.0 _ _ refl)

pub returns-in_err-header-clause-misses : goal.returns-in_err-header-clause-misses
returns-in_err-header-clause-misses g c =
    same_misses (λ (named : NamedFiles) (bytes : List ℕ). with_header named (names_view c.args.names.now) (partial_of bytes) ≢ missing) (g.D.Folder.files c.args.folder.now)
    (g.D.In.File.bytes c.args.partial.now) (g.D.Folder.counts c.args.folder.now).misses

pub returns-in_err-header-clause-counts : goal.returns-in_err-header-clause-counts
returns-in_err-header-clause-counts g c = closes_nothing _ (g.D.Folder.counts c.args.folder.now)

pub returns-in_err-header-clause-kept : goal.returns-in_err-header-clause-kept
returns-in_err-header-clause-kept g c =
    let p = err_from_is_err_and c.from_residual.result c.from_residual.ensures.1 in
    rw (p.1, p.2) (unread_kept c.in_err-header.field-0.0 (g.D.Folder.files c.args.folder.now))

pub returns-in_err-header-clause-unread : goal.returns-in_err-header-clause-unread
returns-in_err-header-clause-unread g c =
    let p = err_from_is_err_and c.from_residual.result c.from_residual.ensures.1 in
    rw (p.1, p.2) (header_unread c.in_err-header.field-0.0 (g.D.Folder.files c.args.folder.now) (names_view c.args.names.now).files (g.D.Folder.counts c.args.folder.now).misses)

pub returns-clause-memory : goal.returns-clause-memory
returns-clause-memory g c =
    let kept = KeepsFaults (g.D.Folder.counts c.args.folder.now) (g.D.Folder.counts c.restore_under.new.folder) in
    memory_map c.restore_under.result kept (kept × (g.D.In.File.faults c.read_partial.new.file ≡ g.D.In.File.faults c.args.partial.now)) (λ so_far. (so_far, c.in_ok-header.ensures.file.kept)) c.restore_under.ensures.memory

pub returns-clause-header_reads : goal.returns-clause-header_reads
returns-clause-header_reads g c =
    made_anyhow c.restore_under.result _ (header_within (g.D.In.File.bytes c.args.partial.now) c.in_ok-header.header _ _ c.in_ok-header.ensures.answer c.in_ok-header.ensures.file.reads)

pub returns-in_err-header-clause-requested : goal.returns-in_err-header-clause-requested
returns-in_err-header-clause-requested g c =
    let p = err_from_is_err_and c.from_residual.result c.from_residual.ensures.1 in
    rw (p.1, p.2) (unread_asks c.in_err-header.field-0.0 (asked_behind (names_view c.args.names.now)) (g.D.Folder.requested c.args.folder.now))

pub returns-in_err-header-clause-memory : goal.returns-in_err-header-clause-memory
returns-in_err-header-clause-memory g c =
    let p = err_from_is_err_and c.from_residual.result c.from_residual.ensures.1 in
    rw (p.1, p.2) (unread_memory c.in_err-header.field-0.0 (g.D.In.File.faults c.args.partial.now) (g.D.In.File.faults c.read_partial.new.file) _ (λ same. (no_faults (g.D.Folder.counts c.args.folder.now), same)) c.in_err-header.ensures.file.kept)

pub returns-in_err-header-clause-reads : goal.returns-in_err-header-clause-reads
returns-in_err-header-clause-reads g c = nothing_within (g.D.Folder.files c.args.folder.now) (names_view c.args.names.now) _ _ refl

pub returns-in_err-header-clause-header_reads : goal.returns-in_err-header-clause-header_reads
returns-in_err-header-clause-header_reads g c =
    let p = err_from_is_err_and c.from_residual.result c.from_residual.ensures.1 in
    rw (p.1, p.2) (unread_unmade c.in_err-header.field-0.0 _)
