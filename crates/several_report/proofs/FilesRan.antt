-- All that is said of a run that is a report of several files.
use Rattle.std.proofs.Common.{inl, inr, ◌≡◌, ◌≤◌, ◌+◌, length, ℕ, List, Option, Some, None, Result, Ok, Err, IfSome, refl, ◌∙◌, arith}
use Rattle.std.specs.Prelude.{sum_by, ◌⊎◌, IfOk}
use Rattle.std.specs.List.{All}
use Rattle.std.specs.Option.{option_map}
use Rattle.trace_outside.specs.Causes.{Rose, raised}
use Rattle.trace_outside.specs.Names.{NamedFiles}
use Rattle.trace_outside.specs.Seen.{FileSeen}
use Rattle.trace_outside.specs.Open.{ClosesMany, SomeFaulty}
use Rattle.trace_args.specs.Command.{ReportData}
use Rattle.run_endings.specs.declared.status.Status.{Status}
use Rattle.run_endings.specs.declared.status.Status.TheVariants.{NoMemory}
use Rattle.several_report.specs.Inputs.{input_share, NamedInput, WrongInput, inputs_in, names_in}
use Rattle.several_report.specs.Meaning.{files_meaning}
use Rattle.run_endings.specs.Meaning.{on_out}
use Rattle.run_endings.specs.Outside.{FolderSeen, Outside, SinkSeen, beside}
use Rattle.run_endings.specs.Ran.{MissesNothingElse}
use Rattle.several_report.specs.Ran.{FilesRan}
use Rattle.several_report.specs.Reported.{FilesReported}
use Rattle.run_endings.proofs.Endings.{Around, CleanAround, ended_around, ended_complete, no_memory_map, not_usage, unbegun}
use Rattle.run_endings.proofs.Requesting.{asked_none, asked_still}
use Rattle.run_endings.proofs.Reading.{both_behind}

no_file : FileSeen
no_file = record { bytes = None; size = 0; faults = 0; reads = 0 }

module _ (words : ReportData) (held : List FileSeen) (status : Status) (name : List ℕ) (before mid now : FolderSeen) (out out_now : SinkSeen) where
  read_all : (told : Option NamedFiles) → now.counts.bytes ≡ raised mid.counts.bytes (sum_by (λ file. file.reads) held) → mid.counts.bytes ≡ before.counts.bytes
      → IfSome told (λ files. IfOk (inputs_in files (names_in words)) (λ inputs. sum_by (λ file. file.reads) held ≤ sum_by (input_share words) inputs))
      → IfSome told (λ files. IfOk (inputs_in files (names_in words)) (λ inputs. now.counts.bytes ≤ raised before.counts.bytes (sum_by (input_share words) inputs)))
  read_all None last first most = tt
  read_all (Some files) last first most = by_inputs (inputs_in files (names_in words)) most
    where
      by_inputs : (r : Result (List NamedInput) WrongInput) → IfOk r (λ inputs. sum_by (λ file. file.reads) held ≤ sum_by (input_share words) inputs)
          → IfOk r (λ inputs. now.counts.bytes ≤ raised before.counts.bytes (sum_by (input_share words) inputs))
      by_inputs (Ok inputs) most = omega (arith, last, first, most)
      by_inputs (Err wrong) most = tt

  -- a report came to its end, and the files that were open still were closed
  pub shown_ran : FilesReported words held status name (beside before out) (beside mid out_now) → ClosesMany held mid.counts now.counts → now.files ≡ mid.files
      → now.requested ≡ mid.requested → FilesRan words status (beside before out) (beside now out_now)
  shown_ran shown closed files requested =
      let around : Around (beside before out) (beside before out) (beside mid out_now) (beside now out_now) = record {
        files_first = refl;
        files_then = files;
        out_first = refl;
        out_then = refl;
        created_first = refl;
        created_then = closed.created;
        unfinished_first = refl;
        unfinished_then = closed.unfinished;
        writing_first = omega arith;
        writing_then = omega (arith, closed.writing);
      } in
      let ended = ended_around (beside before out) (beside before out) (beside mid out_now) (beside now out_now) around on_out
      (Rose before.counts.reading mid.counts.reading ⊎ SomeFaulty held) (Rose before.counts.reading now.counts.reading) (option_map (files_meaning words) before.files) status why (no_memory_map status clean shown.faultless) shown.ended in
      record {
        ran = record {
          ended = ended;
          complete = ended_complete on_out (Rose before.counts.reading now.counts.reading) (option_map (files_meaning words) before.files) status (beside before out) (beside now out_now) ended;
          misses = missed before.files shown.misses;
          closes = λ opened_few closed_few. omega (arith, shown.counts.opened, shown.counts.closed, closed.opened, closed.closed);
          opens = omega (arith, shown.counts.opened, shown.counts.few, closed.opened);
        };
        requested = asked_still (names_in words) before.requested mid.requested now.requested requested shown.requested;
        usage = (not_usage on_out (Rose before.counts.reading now.counts.reading) status (beside before out) (beside now out_now) (λ unasked. unasked) ended.causes, files ∙ shown.files);
        reads = both_behind status (read_all before.files closed.bytes) shown.bytes shown.reads;
      }
    where
      clean : All (λ file. file.faults ≡ 0) held → CleanAround (beside before out) (beside before out) (beside mid out_now) (beside now out_now)
      clean faultless = record { first = record { reading = refl; writing = refl }; last = record { reading = closed.clean faultless; writing = closed.writing } }

      why : (Rose before.counts.reading mid.counts.reading ⊎ SomeFaulty held) → Rose before.counts.reading now.counts.reading
      why (inl rose) = omega (arith, rose, closed.reading)
      why (inr faulty) =
          let rose = closed.faulty faulty.0 no_file faulty.1 (faulty.2 no_file) in
          omega (arith, rose, shown.counts.reading)

      missed : (told : Option NamedFiles) → IfSome told (λ files. MissesNothingElse (files_meaning words files) before.counts mid.counts)
          → IfSome (option_map (files_meaning words) told) (λ m. MissesNothingElse m before.counts now.counts)
      missed None misses = tt
      missed (Some files) misses = λ other. closed.misses ∙ misses other

-- there was no memory to begin
pub files_unbegun : (words : ReportData) (before : Outside) → FilesRan words NoMemory before before
files_unbegun words before =
    record { ran = unbegun on_out _ (option_map (files_meaning words) before.folder.files) (length words.more + 1) before; requested = asked_none (names_in words) before.folder.requested; usage = ((λ is. cc), refl); reads = tt }
