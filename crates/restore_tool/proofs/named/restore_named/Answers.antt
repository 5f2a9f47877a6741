use Rattle.std.proofs.Common.{◌≡◌, ◌≢◌, Option, sym, subst, arith}
use Rattle.std.specs.Option.{IfSome}
use Rattle.trace_outside.specs.Causes.{Rose}
use Rattle.trace_outside.specs.Folders.{IsFileOf}
use Rattle.trace_outside.specs.Memory.{KeepsFaults}
use Rattle.trace_outside.specs.Names.{NamedFiles}
use Rattle.restore_tool.specs.declared.named.Source.TheVariants.{Partial}
use Rattle.restore_tool.specs.Asked.{asked_behind}
use Rattle.restore_tool.specs.Meaning.{IsDone, Task, missing, names_view, task_of}
use Rattle.restore_tool.proofs.Answered.{all_closed, causes_more, created_since, created_then, done_opened, kept_around, misses_then, one_closed_counts, opened_misses, partial_done, unopened_misses, unread_done}
use Rattle.restore_tool.proofs.Asking.{asks_first, asks_then, memory_map, partial_faults}
use Rattle.restore_tool.proofs.Failures.{partial_unopened, unread_behind}
use Rattle.restore_tool.proofs.Reading.{read_once}
use Rattle.restore_tool.proofs.Unread.{one_rose, unopened_counts}
use Rattle.restore_tool.proofs.named.restore_named.Goals as goal

pub returns-in-Err-clause-done : goal.returns-in-Err-clause-done
returns-in-Err-clause-done g c =
    unread_done (λ (named : NamedFiles). task_of named (names_view c.args.names.now)) c.args.names.now.output.now (g.D.Folder.counts c.args.folder.now) (g.D.Folder.counts c.open_file.new.self)
    (g.D.Folder.files c.args.folder.now) (g.D.Folder.files c.open_file.new.self) Partial c.open_file.ensures.files c.open_file.ensures.counts.created

pub returns-in-Err-clause-misses : goal.returns-in-Err-clause-misses
returns-in-Err-clause-misses g c = unopened_misses (names_view c.args.names.now) (g.D.Folder.files c.args.folder.now) _ _ c.open_file.ensures.counts.misses

pub returns-in-Err-clause-counts : goal.returns-in-Err-clause-counts
returns-in-Err-clause-counts g c =
    let opens = c.open_file.ensures.counts in
    unopened_counts _ _ _ opens.reading (omega (arith, opens.writing)) opens.unfinished c.in-Err.ensures.counts.opened opens.closed

pub returns-in-Ok-clause-done : goal.returns-in-Ok-clause-done
returns-in-Ok-clause-done g c =
    let names = names_view c.args.names.now in
    let task = λ (named : NamedFiles). task_of named names in
    let output = c.args.names.now.output.now in
    let start = g.D.Folder.counts c.args.folder.now in
    let opened = g.D.Folder.counts c.open_file.new.self in
    let worked = g.D.Folder.counts c.restore_from-restored.new.folder in
    let last = g.D.Folder.counts c.close_file.new.self in
    let old = g.D.Folder.files c.args.folder.now in
    let first = g.D.Folder.files c.open_file.new.self in
    let new = g.D.Folder.files c.restore_from-restored.new.folder in
    let result = c.restore_from-restored.result in
    let bytes = g.D.In.File.bytes c.in-Ok.partial in
    let given : IsFileOf first names.partial bytes = subst (λ (o : Option NamedFiles). IsFileOf o names.partial bytes) (sym c.open_file.ensures.files) c.in-Ok.ensures.given in
    let work : IfSome first (λ named. IsDone (task named) output opened worked named new result) =
    partial_done names first bytes (λ (named : NamedFiles) (t : Task). IsDone t output opened worked named new result) given c.restore_from-restored.ensures.done in
    all_closed task output start worked last old new (g.D.Folder.files c.close_file.new.self) result c.close_file.ensures.counts.unfinished c.close_file.ensures.counts.created c.close_file.ensures.files
    (done_opened task output start opened worked old first new result c.open_file.ensures.counts.unfinished c.open_file.ensures.counts.created c.open_file.ensures.files work)

pub returns-in-Ok-clause-causes : goal.returns-in-Ok-clause-causes
returns-in-Ok-clause-causes g c =
    let start = g.D.Folder.counts c.args.folder.now in
    let opened = g.D.Folder.counts c.open_file.new.self in
    let worked = g.D.Folder.counts c.restore_from-restored.new.folder in
    let last = g.D.Folder.counts c.close_file.new.self in
    let opens = c.open_file.ensures.counts in
    let closes = c.close_file.ensures.counts in
    causes_more c.restore_from-restored.result _ (Rose start.reading last.reading) _ (Rose start.writing last.writing)
    (λ cause. one_rose _ _ _ start opened worked last opens.reading c.restore_from-restored.ensures.counts.reading closes cause) (λ rose. omega (arith, rose, opens.writing, closes.writing)) c.restore_from-restored.ensures.causes

pub returns-in-Ok-clause-created : goal.returns-in-Ok-clause-created
returns-in-Ok-clause-created g c =
    created_then c.restore_from-restored.result _ _ _ c.close_file.ensures.counts.created
    (created_since c.restore_from-restored.result _ _ _ c.open_file.ensures.counts.created c.restore_from-restored.ensures.created)

pub returns-in-Ok-clause-misses : goal.returns-in-Ok-clause-misses
returns-in-Ok-clause-misses g c =
    let names = names_view c.args.names.now in
    let before = (g.D.Folder.counts c.args.folder.now).misses in
    let opened = (g.D.Folder.counts c.open_file.new.self).misses in
    let worked = (g.D.Folder.counts c.restore_from-restored.new.folder).misses in
    let old = g.D.Folder.files c.args.folder.now in
    let first = g.D.Folder.files c.open_file.new.self in
    let bytes = g.D.In.File.bytes c.in-Ok.partial in
    let given : IsFileOf first names.partial bytes = subst (λ (o : Option NamedFiles). IsFileOf o names.partial bytes) (sym c.open_file.ensures.files) c.in-Ok.ensures.given in
    let work : IfSome first (λ named. task_of named names ≢ missing → worked ≡ opened) =
    partial_done names first bytes (λ (named : NamedFiles) (t : Task). t ≢ missing → worked ≡ opened) given c.restore_from-restored.ensures.misses in
    misses_then (λ (named : NamedFiles). task_of named names) old before opened worked _
    (opened_misses names.partial old bytes before opened c.in-Ok.ensures.given c.open_file.ensures.counts.misses) c.close_file.ensures.counts.misses
    (subst (λ (o : Option NamedFiles). IfSome o (λ named. task_of named names ≢ missing → worked ≡ opened)) c.open_file.ensures.files work)

pub returns-in-Ok-clause-counts : goal.returns-in-Ok-clause-counts
returns-in-Ok-clause-counts g c =
    let opens = c.open_file.ensures.counts in
    one_closed_counts _ _ _ _ _ _ _ opens.reading (omega (arith, opens.writing)) opens.unfinished c.in-Ok.ensures.counts.opened opens.closed c.restore_from-restored.ensures.counts c.close_file.ensures.counts

pub returns-in-Ok-clause-kept : goal.returns-in-Ok-clause-kept
returns-in-Ok-clause-kept g c =
    kept_around c.restore_from-restored.result _ (g.D.Folder.files c.open_file.new.self) (g.D.Folder.files c.restore_from-restored.new.folder) _ c.open_file.ensures.files c.close_file.ensures.files c.restore_from-restored.ensures.kept

pub returns-in-Err-clause-unread : goal.returns-in-Err-clause-unread
returns-in-Err-clause-unread g c = partial_unopened (g.D.Folder.files c.args.folder.now) (names_view c.args.names.now) _ _ c.open_file.ensures.counts.misses

pub returns-in-Ok-clause-unread : goal.returns-in-Ok-clause-unread
returns-in-Ok-clause-unread g c =
    let names = names_view c.args.names.now in
    let before = (g.D.Folder.counts c.args.folder.now).misses in
    let opened = (g.D.Folder.counts c.open_file.new.self).misses in
    let worked = (g.D.Folder.counts c.restore_from-restored.new.folder).misses in
    let old = g.D.Folder.files c.args.folder.now in
    let bytes = g.D.In.File.bytes c.in-Ok.partial in
    unread_behind names bytes before opened worked _ c.close_file.ensures.counts.misses c.restore_from-restored.result old (g.D.Folder.files c.open_file.new.self)
    c.open_file.ensures.files c.in-Ok.ensures.given (opened_misses names.partial old bytes before opened c.in-Ok.ensures.given c.open_file.ensures.counts.misses)
    c.restore_from-restored.ensures.unread

pub returns-in-Err-clause-requested : goal.returns-in-Err-clause-requested
returns-in-Err-clause-requested g c = (1, c.open_file.ensures.requested)

pub returns-in-Ok-clause-requested : goal.returns-in-Ok-clause-requested
returns-in-Ok-clause-requested g c =
    let names = names_view c.args.names.now in
    let behind = asked_behind names in
    let result = c.restore_from-restored.result in
    asks_first names.partial behind _ _ _ result c.open_file.ensures.requested (asks_then behind _ _ _ result c.close_file.ensures.requested c.restore_from-restored.ensures.requested)

pub returns-in-Ok-clause-memory : goal.returns-in-Ok-clause-memory
returns-in-Ok-clause-memory g c =
    let start = g.D.Folder.counts c.args.folder.now in
    let opened = g.D.Folder.counts c.open_file.new.self in
    let worked = g.D.Folder.counts c.restore_from-restored.new.folder in
    let last = g.D.Folder.counts c.close_file.new.self in
    let faults = g.D.In.File.faults c.in-Ok.partial in
    let faults_now = g.D.In.File.faults c.restore_from-restored.new.partial in
    memory_map c.restore_from-restored.result (KeepsFaults opened worked × (faults_now ≡ faults)) (KeepsFaults start last)
    (λ kept. partial_faults faults faults_now _ start opened worked last c.in-Ok.ensures.counts.kept c.open_file.ensures.counts.writing c.in-Ok.ensures.no_faults c.close_file.ensures.counts kept.0 kept.1)
    c.restore_from-restored.ensures.memory

pub returns-in-Ok-clause-reads : goal.returns-in-Ok-clause-reads
returns-in-Ok-clause-reads g c =
    read_once (names_view c.args.names.now) c.restore_from-restored.result (g.D.Folder.files c.args.folder.now) (g.D.Folder.files c.open_file.new.self) (g.D.In.File.bytes c.in-Ok.partial) _ _ _ _ _ _
    c.open_file.ensures.files c.in-Ok.ensures.given c.open_file.ensures.counts.bytes c.in-Ok.ensures.no_reads c.close_file.ensures.counts.bytes c.restore_from-restored.ensures.reads c.restore_from-restored.ensures.header_reads
