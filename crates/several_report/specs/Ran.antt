-- All that is said of a report of several files, by what is seen of the outside before and after.
use Rattle.std.specs.Prelude.{length, ◌≡◌, ◌≢◌, ◌+◌, IfSome}
use Rattle.std.specs.Option.{option_map}
use Rattle.trace_outside.specs.Causes.{Rose}
use Rattle.new_files.specs.Requested.{AskedFirst}
use Rattle.trace_args.specs.Command.{ReportData}
use Rattle.run_endings.specs.declared.status.Status.{Status}
use Rattle.run_endings.specs.declared.status.Status.TheVariants.{Usage}
use Rattle.run_endings.specs.Meaning.{on_out}
use Rattle.run_endings.specs.Outside.{Outside}
use Rattle.run_endings.specs.Progress.{BehindHeader}
use Rattle.run_endings.specs.Ran.{JobRan}
use Rattle.several_report.specs.Inputs.{FilesRead, names_in}
use Rattle.several_report.specs.Meaning.{files_meaning}

pub record FilesRan (words : ReportData) (status : Status) (before now : Outside) : Type 0 where
  pub ran : JobRan on_out (Rose before.folder.counts.reading now.folder.counts.reading) (option_map (files_meaning words) before.folder.files) (length words.more + 1) status before now
  pub requested : AskedFirst (names_in words) before.folder.requested now.folder.requested
  pub usage : (status ≢ Usage) × (now.folder.files ≡ before.folder.files)
  pub reads : BehindHeader status (IfSome before.folder.files (λ files. FilesRead words files before.folder.counts.bytes now.folder.counts.bytes))
