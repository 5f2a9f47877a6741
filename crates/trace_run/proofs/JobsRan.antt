-- What a report of several files and a restore promise, as all that is said of a run.
use Rattle.std.proofs.Common.{Ok}
use Rattle.std.specs.Option.{option_map}
use Rattle.trace_args.specs.Command.{ReportData, RestoreData}
use Rattle.run_endings.specs.declared.status.Status.{Status}
use Rattle.run_endings.specs.Outside.{Outside}
use Rattle.run_words.specs.Job.{OnFiles, Restore}
use Rattle.several_report.specs.Ran.{FilesRan}
use Rattle.restore_run.specs.Ran.{RestoreRan}
use Rattle.several_report.specs.Meaning.{files_meaning}
use Rattle.restore_run.specs.Restore.{restore_meaning}
use Rattle.trace_run.specs.Ran.{Ran}
use Rattle.trace_run.specs.Requested.{names_of}
use Rattle.run_endings.proofs.Requesting.{asks_for}

pub files_ran : (words : ReportData) (status : Status) (before now : Outside) → FilesRan words status before now → Ran (Ok (OnFiles words)) status before now
files_ran words status before now did = record {
  job = did.ran;
  usage = did.usage;
  requested = asks_for (names_of (OnFiles words)) (option_map (files_meaning words) before.folder.files) before.folder.requested now.folder.requested (λ news. did.requested);
  reads = did.reads;
  gathers = tt;
}

pub restore_ran : (words : RestoreData) (status : Status) (before now : Outside) → RestoreRan words status before now → Ran (Ok (Restore words)) status before now
restore_ran words status before now did = record {
  job = did.ran;
  usage = did.usage;
  requested = asks_for (names_of (Restore words)) (option_map (restore_meaning words) before.folder.files) before.folder.requested now.folder.requested (λ news. did.requested);
  reads = did.reads;
  gathers = tt;
}
