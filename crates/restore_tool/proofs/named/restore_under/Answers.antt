use Rattle.std.proofs.Common.{◌≡◌, [], refl, sym, map, length, subst, ℕ, arith}
use Rattle.std.proofs.lemmas.List.{length-map}
use Rattle.trace_outside.specs.Causes.{Rose}
use Rattle.trace_outside.specs.Memory.{KeepsFaults}
use Rattle.trace_outside.specs.Names.{NamedFiles}
use Rattle.trace_outside.specs.Seen.{file_seen}
use Rattle.trace_outside.specs.Open.{AreThere}
use Rattle.restore_tool.specs.Asked.{asked_behind}
use Rattle.restore_tool.specs.Failing.{IfRead, IsUnreadBehind}
use Rattle.restore_tool.specs.Meaning.{names_view, texts_of, with_texts}
use Rattle.restore_tool.proofs.Answered.{all_closed, all_closed_counts, closed_rose, created_then, kept_around, unheld_done}
use Rattle.restore_tool.proofs.Asking.{asked_none, asks_then, closed_faults, memory_map, no_faults}
use Rattle.restore_tool.proofs.Failures.{causes_faulty}
use Rattle.restore_tool.proofs.Reading.{closed_within, nothing_within}
use Rattle.restore_tool.proofs.Unread.{closes_nothing, misses_kept, none_missed}
use Rattle.restore_tool.proofs.named.restore_under.Goals as goal

pub returns-in_default-clause-done : goal.returns-in_default-clause-done
returns-in_default-clause-done g c =
    let counts = g.D.Folder.counts c.args.folder.now in
    unheld_done (λ (named : NamedFiles). with_texts c.args.header c.args.names.now.output.now (texts_of named (names_view c.args.names.now).files)) c.args.names.now.output.now counts counts
    (g.D.Folder.files c.args.folder.now) (g.D.Folder.files c.args.folder.now) refl

pub returns-in_default-clause-misses : goal.returns-in_default-clause-misses
returns-in_default-clause-misses g c = none_missed (λ (named : NamedFiles). AreThere named (names_view c.args.names.now).files) (g.D.Folder.files c.args.folder.now) (g.D.Folder.counts c.args.folder.now).misses

pub returns-in_default-clause-counts : goal.returns-in_default-clause-counts
returns-in_default-clause-counts g c = closes_nothing _ (g.D.Folder.counts c.args.folder.now)

pub returns-clause-done : goal.returns-clause-done
returns-clause-done g c =
    let closes = c.close_files.ensures.counts in
    all_closed (λ (named : NamedFiles). with_texts c.args.header c.args.names.now.output.now (texts_of named (names_view c.args.names.now).files)) c.args.names.now.output.now
    (g.D.Folder.counts c.args.folder.now) (g.D.Folder.counts c.restore_data-restored.new.folder) (g.D.Folder.counts c.close_files.new.folder) (g.D.Folder.files c.args.folder.now) (g.D.Folder.files c.restore_data-restored.new.folder) (g.D.Folder.files c.close_files.new.folder)
    c.restore_data-restored.result closes.unfinished closes.created c.close_files.ensures.files c.restore_data-restored.ensures.done

pub returns-clause-causes : goal.returns-clause-causes
returns-clause-causes g c =
    let files = map (file_seen g.D.In.File) c.restore_data-restored.new.files.items in
    let start = g.D.Folder.counts c.args.folder.now in
    let mid = g.D.Folder.counts c.restore_data-restored.new.folder in
    let now = g.D.Folder.counts c.close_files.new.folder in
    let closes = c.close_files.ensures.counts in
    causes_faulty c.restore_data-restored.result (Rose start.reading mid.reading) files (Rose start.reading now.reading) _ (Rose start.writing now.writing)
    (λ cause. closed_rose files start mid now c.restore_data-restored.ensures.counts.reading closes cause) (λ rose. omega (arith, rose, closes.writing)) c.restore_data-restored.ensures.causes

pub returns-clause-created : goal.returns-clause-created
returns-clause-created g c = created_then c.restore_data-restored.result _ _ _ c.close_files.ensures.counts.created c.restore_data-restored.ensures.created

pub returns-clause-counts : goal.returns-clause-counts
returns-clause-counts g c =
    let items = c.restore_data-restored.new.files.items in
    let f = file_seen g.D.In.File in
    all_closed_counts (length items) _ (map f items) _ _ _ (sym (length-map items f)) c.restore_data-restored.ensures.inside c.restore_data-restored.ensures.counts c.close_files.ensures.counts

pub returns-clause-kept : goal.returns-clause-kept
returns-clause-kept g c = kept_around c.restore_data-restored.result _ (g.D.Folder.files c.args.folder.now) (g.D.Folder.files c.restore_data-restored.new.folder) _ refl c.close_files.ensures.files c.restore_data-restored.ensures.kept

pub returns-clause-misses : goal.returns-clause-misses
returns-clause-misses g c =
    misses_kept (λ (named : NamedFiles). AreThere named (names_view c.args.names.now).files) (g.D.Folder.files c.args.folder.now) (g.D.Folder.counts c.args.folder.now).misses
    (g.D.Folder.counts c.restore_data-restored.new.folder).misses (g.D.Folder.counts c.close_files.new.folder).misses c.close_files.ensures.counts.misses c.restore_data-restored.ensures.misses

pub returns-clause-unread : goal.returns-clause-unread
returns-clause-unread g c =
    subst (λ (n : ℕ). IfRead c.restore_data-restored.result (IsUnreadBehind (g.D.Folder.files c.args.folder.now) (names_view c.args.names.now).files (g.D.Folder.counts c.args.folder.now).misses n))
    (sym c.close_files.ensures.counts.misses) c.restore_data-restored.ensures.unread

pub returns-in_default-clause-requested : goal.returns-in_default-clause-requested
returns-in_default-clause-requested g c = asked_none (asked_behind (names_view c.args.names.now)) (g.D.Folder.requested c.args.folder.now)

pub returns-in_default-clause-memory : goal.returns-in_default-clause-memory
returns-in_default-clause-memory g c = no_faults (g.D.Folder.counts c.args.folder.now)

pub returns-in_default-clause-reads : goal.returns-in_default-clause-reads
returns-in_default-clause-reads g c = nothing_within (g.D.Folder.files c.args.folder.now) (names_view c.args.names.now) _ _ refl

pub returns-clause-requested : goal.returns-clause-requested
returns-clause-requested g c =
    asks_then (asked_behind (names_view c.args.names.now)) _ _ _ c.restore_data-restored.result c.close_files.ensures.requested c.restore_data-restored.ensures.requested

pub returns-clause-memory : goal.returns-clause-memory
returns-clause-memory g c =
    let start = g.D.Folder.counts c.args.folder.now in
    let mid = g.D.Folder.counts c.restore_data-restored.new.folder in
    let now = g.D.Folder.counts c.close_files.new.folder in
    let files = c.restore_data-restored.new.files.items in
    memory_map c.restore_data-restored.result (KeepsFaults start mid × (files ≡ [])) (KeepsFaults start now)
    (λ kept. closed_faults (file_seen g.D.In.File) files start mid now kept.1 c.close_files.ensures.counts kept.0) c.restore_data-restored.ensures.memory

pub returns-clause-reads : goal.returns-clause-reads
returns-clause-reads g c =
    closed_within (g.D.Folder.files c.args.folder.now) (names_view c.args.names.now) (map (file_seen g.D.In.File) c.restore_data-restored.new.files.items) _ _ _
    c.restore_data-restored.ensures.counts.bytes c.close_files.ensures.counts.bytes c.restore_data-restored.ensures.reads
