use Rattle.std.proofs.Common.{◌≡◌, ◌≤◌, ◌+◌, List, [], ◌∷◌, Result, Ok, Err, inl, length, map, refl, sym, ap, subst, ◌∙◌, arith}
use Rattle.std.specs.Option.{IfSome}
use Rattle.std.proofs.lemmas.Result.{err_from_is_err_and}
use Rattle.std.proofs.lemmas.List.{length-map, take_at}
use Rattle.trace_outside.specs.Causes.{Rose}
use Rattle.trace_outside.specs.Names.{NamedFiles}
use Rattle.trace_outside.specs.Seen.{file_seen}
use Rattle.trace_outside.specs.Open.{AreFilesOf, AreThere}
use Rattle.restore_tool.specs.declared.named.Source.TheVariants.{Partial}
use Rattle.restore_tool.specs.Answers.{Causes, fault_of_data}
use Rattle.restore_tool.specs.declared.named.RestoreFault.{RestoreFault}
use Rattle.restore_tool.specs.Asked.{asked_behind}
use Rattle.restore_tool.specs.Failing.{IfRead, IsFaulty}
use Rattle.restore_tool.specs.Meaning.{names_view, texts_of, with_texts}
use Rattle.restore_tool.specs.Reads.{DataWithin, reads_of}
use Rattle.restore_tool.proofs.Answered.{created_by, data_done, kept_by, unheld_done, unread_done}
use Rattle.restore_tool.proofs.Failures.{any_missed, data_faulty, data_unread, misses_since, missed_there, unopened_unread}
use Rattle.restore_tool.proofs.Asking.{asked_few, asked_made, asked_none, made_memory, no_faults}
use Rattle.restore_tool.proofs.Reading.{data_read, data_within, none_within, unused_once}
use Rattle.restore_tool.proofs.Unread.{none_missed}
use Rattle.restore_tool.proofs.named.restore_data.Goals as goal

pub returns-in_default-clause-done : goal.returns-in_default-clause-done
returns-in_default-clause-done g c =
    let counts = g.D.Folder.counts c.args.folder.now in
    unheld_done (λ (named : NamedFiles). with_texts c.args.header c.args.names.now.output.now (texts_of named (names_view c.args.names.now).files)) c.args.names.now.output.now counts counts
    (g.D.Folder.files c.args.folder.now) (g.D.Folder.files c.args.folder.now) refl

pub returns-in_default-clause-misses : goal.returns-in_default-clause-misses
returns-in_default-clause-misses g c =
    none_missed (λ (named : NamedFiles). AreThere named (names_view c.args.names.now).files) (g.D.Folder.files c.args.folder.now) (g.D.Folder.counts c.args.folder.now).misses

pub returns-in-Err-clause-done : goal.returns-in-Err-clause-done
returns-in-Err-clause-done g c =
    unread_done (λ (named : NamedFiles). with_texts c.args.header c.args.names.now.output.now (texts_of named (names_view c.args.names.now).files)) c.args.names.now.output.now
    (g.D.Folder.counts c.args.folder.now) (g.D.Folder.counts c.open_files.new.folder) (g.D.Folder.files c.args.folder.now) (g.D.Folder.files c.open_files.new.folder) Partial
    c.open_files.ensures.files c.open_files.ensures.counts.created

pub returns-in_err-restore-clause-done : goal.returns-in_err-restore-clause-done
returns-in_err-restore-clause-done g c =
    let p = err_from_is_err_and c.from_residual.result c.from_residual.ensures.1 in
    let f = file_seen g.D.In.File in
    let names = (names_view c.args.names.now).files in
    let slice = c.as_mut_slice.result.now in
    let old = g.D.Folder.files c.args.folder.now in
    rw (p.1, p.2) (data_done c.args.header c.in-Ok-Ok-Ok.header _ c.args.names.now.output.now names (map f slice) (g.D.Folder.counts c.args.folder.now) (g.D.Folder.counts c.open_files.new.folder) (g.D.Folder.counts c.restore.new.folder)
    old (g.D.Folder.files c.open_files.new.folder) (g.D.Folder.files c.restore.new.folder) (Err c.in_err-restore.field-0.0)
    c.in-Ok-Ok-Ok.ensures.header (omega (arith, c.requires.few, length-map c.args.names.now.files.now (λ name. name.now)))
    (omega (arith, length-map slice f, ap length c.as_mut_slice.ensures.value, c.in-Ok.ensures.all, length-map c.args.names.now.files.now (λ name. name.now)))
    (subst (λ (xs : List g.row.D-In.Denot). AreFilesOf old names (map f xs)) (sym c.as_mut_slice.ensures.value) c.open_files.ensures.told)
    c.open_files.ensures.files c.open_files.ensures.counts.unfinished c.open_files.ensures.counts.created c.in_err-restore.ensures.leaves c.in_err-restore.ensures.created)

pub returns-clause-done : goal.returns-clause-done
returns-clause-done g c =
    let f = file_seen g.D.In.File in
    let names = (names_view c.args.names.now).files in
    let slice = c.as_mut_slice.result.now in
    let old = g.D.Folder.files c.args.folder.now in
    data_done c.args.header c.in-Ok-Ok-Ok.header _ c.args.names.now.output.now names (map f slice) (g.D.Folder.counts c.args.folder.now) (g.D.Folder.counts c.open_files.new.folder) (g.D.Folder.counts c.restore.new.folder)
    old (g.D.Folder.files c.open_files.new.folder) (g.D.Folder.files c.restore.new.folder) (Ok tt)
    c.in-Ok-Ok-Ok.ensures.header (omega (arith, c.requires.few, length-map c.args.names.now.files.now (λ name. name.now)))
    (omega (arith, length-map slice f, ap length c.as_mut_slice.ensures.value, c.in-Ok.ensures.all, length-map c.args.names.now.files.now (λ name. name.now)))
    (subst (λ (xs : List g.row.D-In.Denot). AreFilesOf old names (map f xs)) (sym c.as_mut_slice.ensures.value) c.open_files.ensures.told)
    c.open_files.ensures.files c.open_files.ensures.counts.unfinished c.open_files.ensures.counts.created c.in_ok-restore.ensures.leaves c.in_ok-restore.ensures.created

pub returns-in_err-restore-clause-causes : goal.returns-in_err-restore-clause-causes
returns-in_err-restore-clause-causes g c =
    let p = err_from_is_err_and c.from_residual.result c.from_residual.ensures.1 in
    let f = file_seen g.D.In.File in
    let slice = c.as_mut_slice.result.now in
    let now = c.restore.new.files in
    let start = g.D.Folder.counts c.args.folder.now in
    let last = g.D.Folder.counts c.restore.new.folder in
    let long : length now ≡ c.open_files.new.files.len = omega (arith, c.as_mut_slice.ensures.len, c.restore.auto.files) in
    let failed = Rose start.reading last.reading in
    let end : Result Unit RestoreFault = Err (fault_of_data c.in_err-restore.field-0.0) in
    rw (p.1, p.2) (subst (λ (xs : List g.row.D-In.Denot). Causes end (IfRead end (IsFaulty failed (map f xs))) (Rose start.writing last.writing)) (sym (take_at now _ c.open_files.new.files.len long))
    (data_faulty (map f slice) (map f now) failed start (g.D.Folder.counts c.open_files.new.folder) last (Err c.in_err-restore.field-0.0)
    (omega (arith, length-map slice f, length-map now f, c.restore.auto.files)) (omega (arith, c.open_files.ensures.counts.writing)) c.in_err-restore.ensures.cause))

pub returns-in_err-restore-clause-kept : goal.returns-in_err-restore-clause-kept
returns-in_err-restore-clause-kept g c =
    let p = err_from_is_err_and c.from_residual.result c.from_residual.ensures.1 in
    let f = file_seen g.D.In.File in
    rw (p.1, p.2) (kept_by c.in-Ok-Ok-Ok.header (map f c.as_mut_slice.result.now) c.args.names.now.output.now (g.D.Folder.counts c.open_files.new.folder) (g.D.Folder.counts c.restore.new.folder)
    (g.D.Folder.files c.args.folder.now) (g.D.Folder.files c.open_files.new.folder) (g.D.Folder.files c.restore.new.folder) (Err c.in_err-restore.field-0.0) c.open_files.ensures.files c.in_err-restore.ensures.leaves)

pub returns-in_err-restore-clause-created : goal.returns-in_err-restore-clause-created
returns-in_err-restore-clause-created g c =
    let p = err_from_is_err_and c.from_residual.result c.from_residual.ensures.1 in
    rw (p.1, p.2) (created_by (Err c.in_err-restore.field-0.0) _ _ _ c.open_files.ensures.counts.created c.in_err-restore.ensures.created)

pub returns-in_err-restore-clause-misses : goal.returns-in_err-restore-clause-misses
returns-in_err-restore-clause-misses g c =
    let told = g.D.Folder.files c.args.folder.now in
    any_missed (λ (named : NamedFiles). AreThere named (names_view c.args.names.now).files) told _ _
    (misses_since told _ (g.D.Folder.counts c.open_files.new.folder).misses _ c.restore.ensures.counts.misses c.in-Ok.ensures.unmissed)

pub returns-clause-misses : goal.returns-clause-misses
returns-clause-misses g c =
    let told = g.D.Folder.files c.args.folder.now in
    any_missed (λ (named : NamedFiles). AreThere named (names_view c.args.names.now).files) told _ _
    (misses_since told _ (g.D.Folder.counts c.open_files.new.folder).misses _ c.restore.ensures.counts.misses c.in-Ok.ensures.unmissed)

pub returns-in_err-restore-clause-unread : goal.returns-in_err-restore-clause-unread
returns-in_err-restore-clause-unread g c =
    let p = err_from_is_err_and c.from_residual.result c.from_residual.ensures.1 in
    let f = file_seen g.D.In.File in
    let names = (names_view c.args.names.now).files in
    let slice = c.as_mut_slice.result.now in
    let told = g.D.Folder.files c.args.folder.now in
    rw (p.1, p.2) (data_unread told names (map f slice) (map f c.restore.new.files) _ _ _ _ (Err c.in_err-restore.field-0.0)
    (omega (arith, length-map slice f, ap length c.as_mut_slice.ensures.value, c.in-Ok.ensures.all, length-map c.args.names.now.files.now (λ name. name.now)))
    (subst (λ (xs : List g.row.D-In.Denot). AreFilesOf told names (map f xs)) (sym c.as_mut_slice.ensures.value) c.open_files.ensures.told) c.in_err-restore.ensures.cause
    (misses_since told _ (g.D.Folder.counts c.open_files.new.folder).misses _ c.restore.ensures.counts.misses c.in-Ok.ensures.unmissed))

pub returns-in-Err-clause-causes : goal.returns-in-Err-clause-causes
returns-in-Err-clause-causes g c =
    let f = file_seen g.D.In.File in
    inl (omega (arith, length-map c.open_files.new.files.items f), c.in-Err.ensures.failed)

pub returns-in-Err-clause-misses : goal.returns-in-Err-clause-misses
returns-in-Err-clause-misses g c =
    missed_there (g.D.Folder.files c.args.folder.now) (names_view c.args.names.now).files (length c.open_files.new.files.items) _ _
    (omega (arith, c.in-Err.ensures.fewer, length-map c.args.names.now.files.now (λ name. name.now))) c.in-Err.ensures.missed

pub returns-in-Err-clause-unread : goal.returns-in-Err-clause-unread
returns-in-Err-clause-unread g c =
    let f = file_seen g.D.In.File in
    let items = c.open_files.new.files.items in
    unopened_unread (g.D.Folder.files c.args.folder.now) (names_view c.args.names.now).files (map f items) (length items) _ _ _ (sym (length-map items f)) (omega arith)
    (omega (arith, c.in-Err.ensures.fewer, length-map c.args.names.now.files.now (λ name. name.now))) c.open_files.ensures.told c.in-Err.ensures.missed

-- NAMES, MEMORY AND WHAT IS READ

pub returns-in_default-clause-requested : goal.returns-in_default-clause-requested
returns-in_default-clause-requested g c = asked_none (asked_behind (names_view c.args.names.now)) (g.D.Folder.requested c.args.folder.now)

pub returns-in_default-clause-memory : goal.returns-in_default-clause-memory
returns-in_default-clause-memory g c = (no_faults (g.D.Folder.counts c.args.folder.now), c.requires.none)

pub returns-in_default-clause-reads : goal.returns-in_default-clause-reads
returns-in_default-clause-reads g c =
    let files = c.args.files.now.items in
    none_within (g.D.Folder.files c.args.folder.now) (names_view c.args.names.now) (map (file_seen g.D.In.File) files) (length-map files (file_seen g.D.In.File) ∙ ap length c.requires.none)

pub returns-in-Err-clause-requested : goal.returns-in-Err-clause-requested
returns-in-Err-clause-requested g c =
    asked_few (names_view c.args.names.now).files (c.args.names.now.output.now ∷ []) _ _ (length c.open_files.new.files.items + 1)
    (omega (arith, c.in-Err.ensures.fewer, length-map c.args.names.now.files.now (λ name. name.now))) c.open_files.ensures.requested

pub returns-in-Err-clause-reads : goal.returns-in-Err-clause-reads
returns-in-Err-clause-reads g c =
    let seen = map (file_seen g.D.In.File) c.open_files.new.files.items in
    data_within (g.D.Folder.files c.args.folder.now) (names_view c.args.names.now) seen c.open_files.ensures.told (unused_once seen c.open_files.ensures.unused)
    (omega (arith, c.open_files.ensures.inside, length-map c.open_files.new.files.items (file_seen g.D.In.File), length-map c.args.names.now.files.now (λ name. name.now)))

pub returns-in_err-restore-clause-requested : goal.returns-in_err-restore-clause-requested
returns-in_err-restore-clause-requested g c =
    let p = err_from_is_err_and c.from_residual.result c.from_residual.ensures.1 in
    rw (p.1, p.2) (asked_made (names_view c.args.names.now).files _ _ _ c.args.names.now.output.now (length c.open_files.new.files.items + 1) (Err c.in_err-restore.field-0.0)
    (omega (arith, c.in-Ok.ensures.all, length-map c.args.names.now.files.now (λ name. name.now))) c.open_files.ensures.requested c.restore.ensures.requested)

pub returns-in_err-restore-clause-memory : goal.returns-in_err-restore-clause-memory
returns-in_err-restore-clause-memory g c =
    let p = err_from_is_err_and c.from_residual.result c.from_residual.ensures.1 in
    rw (p.1, p.2) (made_memory (Err c.in_err-restore.field-0.0) _)

pub returns-in_err-restore-clause-reads : goal.returns-in_err-restore-clause-reads
returns-in_err-restore-clause-reads g c =
    let f = file_seen g.D.In.File in
    let told = g.D.Folder.files c.args.folder.now in
    let names = names_view c.args.names.now in
    let now = c.restore.new.files in
    let long : length now ≡ c.open_files.new.files.len = omega (arith, c.as_mut_slice.ensures.len, c.restore.auto.files) in
    subst (λ (xs : List g.row.D-In.Denot). IfSome told (λ named. DataWithin named names (λ size. reads_of (map f xs) ≤ size))) (sym (take_at now _ c.open_files.new.files.len long))
    (data_read f told names c.open_files.new.files.items c.as_mut_slice.result.now now c.as_mut_slice.ensures.value (omega (arith, c.restore.auto.files))
    (omega (arith, c.in-Ok.ensures.all, length-map c.args.names.now.files.now (λ name. name.now))) (λ file. g.met.D.In.File.size_is file) c.open_files.ensures.told c.open_files.ensures.unused c.restore.ensures.keep)

pub returns-clause-reads : goal.returns-clause-reads
returns-clause-reads g c =
    let f = file_seen g.D.In.File in
    let told = g.D.Folder.files c.args.folder.now in
    let names = names_view c.args.names.now in
    let now = c.restore.new.files in
    let long : length now ≡ c.open_files.new.files.len = omega (arith, c.as_mut_slice.ensures.len, c.restore.auto.files) in
    subst (λ (xs : List g.row.D-In.Denot). IfSome told (λ named. DataWithin named names (λ size. reads_of (map f xs) ≤ size))) (sym (take_at now _ c.open_files.new.files.len long))
    (data_read f told names c.open_files.new.files.items c.as_mut_slice.result.now now c.as_mut_slice.ensures.value (omega (arith, c.restore.auto.files))
    (omega (arith, c.in-Ok.ensures.all, length-map c.args.names.now.files.now (λ name. name.now))) (λ file. g.met.D.In.File.size_is file) c.open_files.ensures.told c.open_files.ensures.unused c.restore.ensures.keep)
