-- All that is said of a run that is a restore.
use Rattle.std.proofs.Common.{◌≡◌, ◌≢◌, ◌≤◌, ◌+◌, ◌∙◌, ℕ, List, [], ◌∷◌, length, Option, None, Some, Result, Ok, Err, IfSome, inl, inr, refl, sym, subst, arith}
use Rattle.std.specs.Option.{IsSomeAnd, option_map}
use Rattle.trace_outside.specs.Causes.{Rose, raised}
use Rattle.trace_outside.specs.Memory.{KeepsFaults}
use Rattle.trace_outside.specs.Names.{NamedFiles, SameBut}
use Rattle.trace_outside.proofs.Gains.{gained_nothing}
use Rattle.new_files.specs.Requested.{AskedFirst}
use Rattle.new_files.specs.Stored.{FilesStored, FirstFilesStored, IsUnmade, NewFile}
use Rattle.dat_options.specs.declared.fault.OpenFault.{OpenFault}
use Rattle.restore_tool.specs.declared.named.RestoreFault.{RestoreFault}
use Rattle.restore_tool.specs.declared.named.RestoreFault.TheVariants as code
use Rattle.restore_tool.specs.Answers as tool
use Rattle.restore_tool.specs.Answers.{Causes, ClosesAll, Created, IfMade, KeepsFiles}
use Rattle.restore_tool.specs.Asked.{AsksFor}
use Rattle.restore_tool.specs.Meaning.{IsDone, IsToMake, Task, files_in, missing, refused, made, task_of}
use Rattle.trace_args.specs.Command.{RestoreData}
use Rattle.run_endings.specs.declared.status.Status.{Status}
use Rattle.run_endings.specs.declared.status.Status.TheVariants.{Done, Refused, ReadFault, WriteFault, NoMemory}
use Rattle.run_endings.specs.Ending.{CountsNoFault, Ended, Ends, Finished, IfNoMemory, IsCaused, LeavesAll}
use Rattle.run_endings.specs.Meaning.{Meaning, on_folder, only}
use Rattle.restore_run.specs.Restore.{RestoreReads, names_of, restore_asks, restore_meaning, task_means, status_of_restore}
use Rattle.run_endings.specs.Outside.{FolderSeen, SinkSeen, beside}
use Rattle.run_endings.specs.Progress.{BehindHeader}
use Rattle.run_endings.specs.Ran.{MissesNothingElse}
use Rattle.restore_run.specs.Ran.{RestoreRan}
use Rattle.run_endings.proofs.Endings.{ended_complete, not_usage, stored_none}
use Rattle.run_endings.proofs.Requesting.{asked_few}

module _ (output : List ℕ) (named : NamedFiles) (before now : FolderSeen) (out : SinkSeen) (is : before.files ≡ Some named) where
  -- the new file stands
  done_ends : (task : Task) → Created (Ok tt) before.counts.created now.counts.created → IsDone task output before.counts now.counts named now.files (Ok tt)
      → Ends (task_means task) Done (beside before out) (beside now out)
  done_ends missing created done = absurd done
  done_ends (refused fault) created done = absurd done
  done_ends (made file) created done =
      let here : FilesStored (file ∷ []) (Some named) now.files = subst (λ (o : Option NamedFiles). FilesStored (file ∷ []) (Some named) o) (sym done) refl in
      record {
        answer = refl;
        output = gained_nothing out.written;
        files = subst (λ (o : Option NamedFiles). FilesStored (file ∷ []) o now.files) (sym is) here;
        created = created;
      }

  -- the partial file has no header
  refused_ends : (task : Task) (fault : OpenFault) → now.counts.created ≡ before.counts.created → task ≡ refused fault → now.files ≡ Some named
      → Ends (task_means task) (Refused fault) (beside before out) (beside now out)
  refused_ends task fault created same files =
      let here : Finished (only (Refused fault)) (Refused fault) (beside before out) (beside now out) = record {
        answer = refl;
        output = gained_nothing out.written;
        files = stored_none before.files now.files (files ∙ sym is);
        created = omega (arith, created);
      } in
      subst (λ (t : Task). Ends (task_means t) (Refused fault) (beside before out) (beside now out)) (sym same) here

  few_files : (task : Task) → now.counts.created ≤ raised before.counts.created (files_in task) → now.counts.created ≤ raised before.counts.created (length (task_means task).files)
  few_files missing few = few
  few_files (refused fault) few = few
  few_files (made file) few = few

  -- a file could not be opened, or a read of it failed
  read_ends : (task : Task) → now.files ≡ Some named → now.counts.created ≤ raised before.counts.created (files_in task) → Ends (task_means task) ReadFault (beside before out) (beside now out)
  read_ends task files few = record {
    output = (0, gained_nothing out.written);
    files = (0, stored_none before.files now.files (files ∙ sym is));
    created = few_files task few;
  }

  next_open : (file : NewFile) (told : Option NamedFiles) → Rose before.counts.unfinished now.counts.unfinished → IsSomeAnd told (λ after. SameBut file.name named after)
      → FirstFilesStored (file ∷ []) before.counts now.counts (Some named) told
  next_open file None rose others = others
  next_open file (Some after) rose others = (0, named, refl, inr (rose, others))

  first_stored : (file : NewFile) → file.name ≡ output → IsUnmade before.counts.unfinished now.counts.unfinished output (Some named) now.files
      → FirstFilesStored (file ∷ []) before.counts now.counts (Some named) now.files
  first_stored file same (inl files) =
      let here : FirstFilesStored (file ∷ []) before.counts now.counts (Some named) (Some named) = (0, named, refl, inl refl) in
      subst (λ (o : Option NamedFiles). FirstFilesStored (file ∷ []) before.counts now.counts (Some named) o) (sym files) here
  first_stored file same (inr left) =
      next_open file now.files left.0 (subst (λ (name : List ℕ). IsSomeAnd now.files (λ after. SameBut name named after)) (sym same) left.1)

  -- the new file could not be made
  write_ends : (task : Task) → now.counts.created ≤ raised before.counts.created 1 → IsToMake task output → IsUnmade before.counts.unfinished now.counts.unfinished output (Some named) now.files
      → Ends (task_means task) WriteFault (beside before out) (beside now out)
  write_ends missing created some unmade = absurd some
  write_ends (refused fault) created some unmade = absurd some
  write_ends (made file) created some unmade = record {
    output = (0, gained_nothing out.written);
    files = subst (λ (o : Option NamedFiles). FirstFilesStored (file ∷ []) before.counts now.counts o now.files) (sym is) (first_stored file some unmade);
    created = created;
  }

  unheld_ends : (task : Task) → now.counts.created ≡ before.counts.created → now.files ≡ Some named → Ends (task_means task) NoMemory (beside before out) (beside now out)
  unheld_ends task created files = record { output = refl; files = files ∙ sym is; created = created }

  task_ends : (result : Result Unit RestoreFault) (task : Task) → Created result before.counts.created now.counts.created → IsDone task output before.counts now.counts named now.files result
      → Ends (task_means task) (status_of_restore result) (beside before out) (beside now out)
  task_ends (Ok value) task created done = done_ends task created done
  task_ends (Err (code.Refused fault)) task created done = refused_ends task fault created done.0 done.1
  task_ends (Err (code.Read source)) task created done = read_ends task done.0 done.1
  task_ends (Err code.Write) task created done = write_ends task created done.0 done.1
  task_ends (Err code.NoMemory) task created done = unheld_ends task created done

-- after a fault of reading all files are as they were
as_before : (result : Result Unit RestoreFault) {told now : Option NamedFiles} → KeepsFiles result told now → status_of_restore result ≡ ReadFault → now ≡ told
as_before (Ok done) kept unread = absurd cc
as_before (Err (code.Refused fault)) kept unread = absurd cc
as_before (Err (code.Read source)) kept unread = kept
as_before (Err code.Write) kept unread = absurd cc
as_before (Err code.NoMemory) kept unread = absurd cc

task_misses : (task : Task) (before now : ℕ) → (task ≢ missing → now ≡ before) → (task_means task).status ≢ ReadFault → now ≡ before
task_misses missing before now some other = absurd (other refl)
task_misses (refused fault) before now some other = some (λ is. cc)
task_misses (made file) before now some other = some (λ is. cc)

-- the first few of the names were asked for, or all
asked_by : (result : Result Unit RestoreFault) (names before now : List (List ℕ)) → AsksFor names before now result → AskedFirst names before now
asked_by (Ok done) names before now asked = asked_few names before now asked
asked_by (Err (code.Refused fault)) names before now asked = asked
asked_by (Err (code.Read source)) names before now asked = asked
asked_by (Err code.Write) names before now asked = asked_few names before now asked
asked_by (Err code.NoMemory) names before now asked = asked

-- what holds where the new file was finished, or could not be made
made_behind : (claim : Type 0) (result : Result Unit RestoreFault) → IfMade result claim → BehindHeader (status_of_restore result) claim
made_behind claim (Ok done) holds = holds
made_behind claim (Err (code.Refused fault)) holds = tt
made_behind claim (Err (code.Read source)) holds = tt
made_behind claim (Err code.Write) holds = holds
made_behind claim (Err code.NoMemory) holds = tt

-- what a restoring by names promises is what a run of it promises
pub restored_ran : (words : RestoreData) (result : Result Unit RestoreFault) (status : Status) (out : SinkSeen) (before now : FolderSeen) → status ≡ status_of_restore result
    → IfSome before.files (λ named. IsDone (task_of named (names_of words)) words.output before.counts now.counts named now.files result)
    → Causes result (Rose before.counts.reading now.counts.reading) (Rose before.counts.writing now.counts.writing)
    → KeepsFiles result before.files now.files
    → Created result before.counts.created now.counts.created
    → IfSome before.files (λ named. task_of named (names_of words) ≢ missing → now.counts.misses ≡ before.counts.misses)
    → AsksFor (restore_asks words) before.requested now.requested result
    → tool.IfNoMemory result (KeepsFaults before.counts now.counts)
    → IfMade result (IfSome before.files (λ named. RestoreReads words named before.counts.bytes now.counts.bytes))
    → ClosesAll (length words.files + 1) before.counts now.counts
    → RestoreRan words status (beside before out) (beside now out)
restored_ran words result status out before now told done causes kept created misses asks memory reads counts =
    subst (λ (s : Status). RestoreRan words s (beside before out) (beside now out)) (sym told) (record {
      ran = record {
        ended = ended;
        complete = ended_complete on_folder unread means (status_of_restore result) (beside before out) (beside now out) ended;
        misses = missed before.files misses;
        closes = λ opened closed. omega (arith, counts.opened, counts.closed);
        opens = omega (arith, counts.opened, counts.few);
      };
      requested = asked_by result (restore_asks words) before.requested now.requested asks;
      reads = made_behind _ result reads;
      usage = (not_usage on_folder unread (status_of_restore result) (beside before out) (beside now out) (λ unasked. unasked) ended.causes, refl, as_before result kept);
    })
  where
    unread : Type 0
    unread = Rose before.counts.reading now.counts.reading

    means : Option Meaning
    means = option_map (restore_meaning words) before.files

    ends : (known : Option NamedFiles) → before.files ≡ known → IfSome known (λ named. IsDone (task_of named (names_of words)) words.output before.counts now.counts named now.files result)
        → IfSome (option_map (restore_meaning words) known) (λ m. Ends m (status_of_restore result) (beside before out) (beside now out))
    ends None is done = tt
    ends (Some named) is done = task_ends words.output named before now out is result (task_of named (names_of words)) created done

    leaves : (a : Result Unit RestoreFault) → KeepsFiles a before.files now.files → Created a before.counts.created now.counts.created → LeavesAll (status_of_restore a) (beside before out) (beside now out)
    leaves (Ok done) kept created = tt
    leaves (Err (code.Refused fault)) kept created = record { output = refl; files = kept; created = created }
    leaves (Err (code.Read source)) kept created = tt
    leaves (Err code.Write) kept created = tt
    leaves (Err code.NoMemory) kept created = record { output = refl; files = kept; created = created }

    caused : (a : Result Unit RestoreFault) → Causes a (Rose before.counts.reading now.counts.reading) (Rose before.counts.writing now.counts.writing)
        → IsCaused on_folder (Rose before.counts.reading now.counts.reading) (status_of_restore a) (beside before out) (beside now out)
    caused (Ok done) cause = tt
    caused (Err (code.Refused fault)) cause = cause
    caused (Err (code.Read source)) cause = cause
    caused (Err code.Write) cause = cause
    caused (Err code.NoMemory) cause = tt

    faultless : (a : Result Unit RestoreFault) → tool.IfNoMemory a (KeepsFaults before.counts now.counts) → IfNoMemory (status_of_restore a) (CountsNoFault (beside before out) (beside now out))
    faultless (Ok done) same = tt
    faultless (Err (code.Refused fault)) same = tt
    faultless (Err (code.Read source)) same = tt
    faultless (Err code.Write) same = tt
    faultless (Err code.NoMemory) same = record { folder = same; out = refl }

    ended : Ended on_folder (Rose before.counts.reading now.counts.reading) (option_map (restore_meaning words) before.files) (status_of_restore result) (beside before out) (beside now out)
    ended = record { ends = ends before.files refl done; untouched = leaves result kept created; causes = caused result causes; kept = faultless result memory }

    missed : (known : Option NamedFiles) → IfSome known (λ named. task_of named (names_of words) ≢ missing → now.counts.misses ≡ before.counts.misses)
        → IfSome (option_map (restore_meaning words) known) (λ m. MissesNothingElse m before.counts now.counts)
    missed None misses = tt
    missed (Some named) misses = λ other. task_misses (task_of named (names_of words)) before.counts.misses now.counts.misses misses other
