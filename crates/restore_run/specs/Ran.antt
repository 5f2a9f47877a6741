-- All that is said of a restore, by what is seen of the outside before and after.
use Rattle.std.specs.Prelude.{length, ◌≡◌, ◌≢◌, ◌+◌, IfSome}
use Rattle.std.specs.Option.{option_map}
use Rattle.trace_outside.specs.Causes.{Rose}
use Rattle.new_files.specs.Requested.{AskedFirst}
use Rattle.trace_args.specs.Command.{RestoreData}
use Rattle.run_endings.specs.declared.status.Status.{Status}
use Rattle.run_endings.specs.declared.status.Status.TheVariants.{ReadFault, Usage}
use Rattle.run_endings.specs.Meaning.{on_folder}
use Rattle.run_endings.specs.Outside.{Outside}
use Rattle.run_endings.specs.Progress.{BehindHeader}
use Rattle.run_endings.specs.Ran.{JobRan}
use Rattle.restore_run.specs.Restore.{RestoreReads, restore_asks, restore_meaning}

pub record RestoreRan (words : RestoreData) (status : Status) (before now : Outside) : Type 0 where
  pub ran : JobRan on_folder (Rose before.folder.counts.reading now.folder.counts.reading) (option_map (restore_meaning words) before.folder.files) (length words.files + 1) status before now
  pub requested : AskedFirst (restore_asks words) before.folder.requested now.folder.requested
  pub reads : BehindHeader status (IfSome before.folder.files (λ files. RestoreReads words files before.folder.counts.bytes now.folder.counts.bytes))
  pub usage : (status ≢ Usage) × (now.out ≡ before.out) × (status ≡ ReadFault → now.folder.files ≡ before.folder.files)
