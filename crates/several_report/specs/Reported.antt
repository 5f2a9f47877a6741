-- How a report of several files ended, whose inputs are open still: at the first that could not be shown, or after the lines.
use Rattle.std.specs.Prelude.{Option, Some, None, Result, Ok, Err, ◌≡◌, ◌⊎◌, ◌+◌, ◌≤◌, ℕ, List, [], ◌∷◌, ◌++◌, length, map, slice_get, sum_by, IfOk, IfSome}
use Rattle.std.specs.List.{All}
use Rattle.std.specs.Option.{option_map}
use Rattle.trace_outside.specs.Causes.{Rose}
use Rattle.trace_outside.specs.Seen.{FileSeen}
use Rattle.multi_report.specs.declared.report.FilesEnd.{FilesEnd}
use Rattle.multi_report.specs.declared.report.FilesEnd.TheVariants as end
use Rattle.multi_report.specs.declared.report.FilesFault.{FilesFault}
use Rattle.multi_report.specs.declared.report.FilesFault.TheVariants as fault
use Rattle.multi_report.specs.Sources.{SourceView}
use Rattle.trace_outside.specs.Open.{SomeFaulty}
use Rattle.new_files.specs.Requested.{AskedFirst}
use Rattle.trace_args.specs.Command.{ReportData}
use Rattle.run_endings.specs.declared.job_end.JobEnd.{JobEnd}
use Rattle.run_endings.specs.declared.status.Status.{Status}
use Rattle.run_endings.specs.declared.status.Status.TheVariants.{Done, Malformed, ReadFault, WriteFault}
use Rattle.run_endings.specs.Ending.{Ended, IfNoMemory}
use Rattle.run_endings.specs.Progress.{BehindHeader}
use Rattle.several_report.specs.Inputs.{input_share, inputs_in, names_in}
use Rattle.several_report.specs.Meaning.{files_meaning}
use Rattle.run_endings.specs.Meaning.{on_out}
use Rattle.several_report.specs.Naming.{IsNameIn, IsHeldNamed}
use Rattle.run_endings.specs.Outside.{FolderSeen, Outside, SinkSeen, beside}
use Rattle.run_endings.specs.Ran.{MissesNothingElse}
use Rattle.several_report.specs.OpenInput.{file_in}
use Rattle.several_report.specs.Opened.{LeavesHeld, AreOpened}

-- A report of several files came to its end, and these are open still. Where there was no memory, no read of them had failed.
pub record FilesReported (words : ReportData) (held : List FileSeen) (status : Status) (name : List ℕ) (before now : Outside) : Type 0 where
  pub ended : Ended on_out (Rose before.folder.counts.reading now.folder.counts.reading ⊎ SomeFaulty held)
      (option_map (files_meaning words) before.folder.files) status before now
  pub misses : IfSome before.folder.files (λ files. MissesNothingElse (files_meaning words files) before.folder.counts now.folder.counts)
  pub files : now.folder.files ≡ before.folder.files
  pub counts : LeavesHeld (length held) (length words.more + 1) before.folder.counts now.folder.counts
  pub faultless : IfNoMemory status (All (λ file. file.faults ≡ 0) held)
  pub requested : AskedFirst (names_in words) before.folder.requested now.folder.requested
  pub bytes : BehindHeader status (now.folder.counts.bytes ≡ before.folder.counts.bytes)
  pub reads : BehindHeader status (IfSome before.folder.files (λ files. IfOk (inputs_in files (names_in words)) (λ inputs. sum_by (λ file. file.reads) held ≤ sum_by (input_share words) inputs)))
  pub named : IsNameIn words before.folder.files status name
  pub unread : IsHeldNamed words held status before.folder now.folder name

-- one more input: it is open too, or that is the end of the report
abbrev pub OpensNext : ReportData → FolderSeen → List (List ℕ) → List ℕ → List SourceView → FolderSeen → Result Unit JobEnd → Type 0
OpensNext words before names name sources now (Ok done) = AreOpened words (names ++ name ∷ []) sources before now
OpensNext words before names name sources now (Err last) = (rest : List (List ℕ)) (out : SinkSeen) → names_in words ≡ names ++ name ∷ rest
    → FilesReported words (map file_in sources) last.status last.file.now (beside before out) (beside now out)

-- all inputs are open, or that is the end of the report
abbrev pub OpensAll : ReportData → List SourceView → FolderSeen → FolderSeen → Result Unit JobEnd → Type 0
OpensAll words sources before now (Ok done) = AreOpened words (names_in words) sources before now
OpensAll words sources before now (Err last) = (out : SinkSeen)
    → FilesReported words (map file_in sources) last.status last.file.now (beside before out) (beside now out)

-- the answer for an end of the report
abbrev pub status_of_files : Result FilesEnd FilesFault → Status
status_of_files (Ok end.Done) = Done
status_of_files (Ok (end.Malformed source cut)) = Malformed cut
status_of_files (Err (fault.Read file)) = ReadFault
status_of_files (Err fault.Write) = WriteFault

-- the file that it is of, if it is of one
abbrev pub source_of : Result FilesEnd FilesFault → Option ℕ
source_of (Ok end.Done) = None
source_of (Ok (end.Malformed source cut)) = Some source
source_of (Err (fault.Read file)) = Some file
source_of (Err fault.Write) = None

-- it is the name of this place, if there is such a place
abbrev pub StandsAt : List (List ℕ) → ℕ → List ℕ → Type 0
StandsAt names place name = IfSome (slice_get names place) (λ there. there ≡ name)

-- it is the name of the file that the end is of, if it is of one
abbrev pub IsNameOfEnd : ReportData → Result FilesEnd FilesFault → List ℕ → Type 0
IsNameOfEnd words answer name = IfSome (source_of answer) (λ source. StandsAt (names_in words) source name)
