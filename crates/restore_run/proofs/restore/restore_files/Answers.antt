use Rattle.std.proofs.Common.{Bor, List, ℕ, ◌+◌, map, subst, sym}
use Rattle.std.proofs.lemmas.List.{length-map}
use Rattle.trace_outside.specs.Open.{IsUnread}
use Rattle.restore_tool.specs.Answers.{ClosesAll}
use Rattle.trace_args.specs.Command.{RestoreData, restore_view}
use Rattle.run_endings.specs.Outside.{beside, folder_seen}
use Rattle.restore_run.specs.Ran.{RestoreRan}
use Rattle.restore_tool.specs.Failing.{IfRead, place_of}
use Rattle.restore_run.specs.Naming.{restore_inputs}
use Rattle.restore_run.proofs.Restorings.{restored_ran}
use Rattle.restore_run.proofs.RestoreNames.{restore_named}
use Rattle.restore_run.proofs.restore.restore_files.Goals as goal

abbrev of : List ℕ → List ℕ → List (Bor (List ℕ)) → RestoreData
of input output files = record { input = input; output = output; files = map (λ name. name.now) files }

pub returns-clause-ran : goal.returns-clause-ran
returns-clause-ran g c = λ out.
    let did = c.restore_named-restored.ensures in
    let words = c.args.words.now in
    let files = c.as_slice.result.now in
    let before = folder_seen g.F.Folder c.args.folder.now in
    let now = folder_seen g.F.Folder c.restore_named-restored.new.folder in
    subst (λ (files : List (Bor (List ℕ))). RestoreRan (of words.input.now words.output.now files) c.status_of_restore.result (beside before out) (beside now out)) c.as_slice.ensures.value
    (restored_ran (of words.input.now words.output.now files) c.restore_named-restored.result c.status_of_restore.result out before now c.status_of_restore.ensures
    did.done did.causes did.kept did.created did.misses did.requested did.memory did.reads
    (subst (λ (n : ℕ). ClosesAll (n + 1) (g.F.Folder.counts c.args.folder.now) (g.F.Folder.counts c.restore_named-restored.new.folder)) (sym (length-map files (λ name. name.now))) did.counts))

pub returns-clause-named : goal.returns-clause-named
returns-clause-named g c =
    let words = c.args.words.now in
    let before = folder_seen g.F.Folder c.args.folder.now in
    let now = folder_seen g.F.Folder c.restore_named-restored.new.folder in
    let restored = c.restore_named-restored.result in
    restore_named (restore_view words) restored c.status_of_restore.result c.file_of.result.now before now c.status_of_restore.ensures
    (subst (λ (files : List (Bor (List ℕ))). IfRead restored (λ source. IsUnread before.files (restore_inputs (of words.input.now words.output.now files)) before.counts.misses now.counts.misses (place_of source)))
    c.as_slice.ensures.value c.restore_named-restored.ensures.unread)
    c.file_of.ensures
