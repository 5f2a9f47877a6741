-- From what the parts of a run did to how it ended.
use Rattle.std.proofs.Common.{◌≡◌, inl, inr, arith, ℕ, List, [], ◌∷◌, ◌++◌, length, Option, None, Some, IfSome, IsSome, refl, sym, ap, ◌∙◌, subst, Result, Ok, Err}
use Rattle.std.specs.FinMap.{get}
use Rattle.std.specs.Option.{option_map}
use Rattle.trace_outside.specs.Causes.{raised}
use Rattle.trace_outside.specs.declared.counts.Counts.{Counts}
use Rattle.trace_outside.specs.Names.{NamedFiles}
use Rattle.trace_outside.proofs.Gains.{gained_nothing}
use Rattle.trace_outside.specs.Folders.{Closes, IsFileOf, misses_after}
use Rattle.std.specs.Prelude.{is_none, if◌then◌else◌}
use Rattle.dat_options.specs.declared.fault.OpenFault.{OpenFault}
use Rattle.dat_header.specs.declared.header.Header.{Header}
use Rattle.dat_header.specs.Header.{header_of, IsRefusal, ReadsHeader}
use Rattle.run_endings.specs.declared.status.Status.{Status}
use Rattle.run_endings.specs.declared.status.Status.TheVariants.{Usage, Refused, ReadFault, NoMemory}
use Rattle.run_words.specs.declared.usage.UsageFault.{UsageFault}
use Rattle.run_endings.specs.Ending.{Ended, Ends, IfNoMemory, IsUnasked, Prints, KeepsOut}
use Rattle.several_report.specs.Inputs.{input_found, input_named, input_with}
use Rattle.trace_run.specs.Input.{GathersCalls}
use Rattle.run_words.specs.Job.{FileCommand, Report, Dump, Split, Job, OnFile, OnFiles, SelfTest, Restore, About}
use Rattle.run_endings.specs.Meaning.{Meaning, Target, on_nothing, on_out, only}
use Rattle.trace_run.specs.Meaning.{header_means, input_means, command_meaning, meaning_read, input_of, target_of, target_read}
use Rattle.run_endings.specs.Outside.{FolderSeen, Outside, SinkSeen, beside}
use Rattle.trace_run.specs.Ran.{KeepsOff, Ran, Unread, most_opened}
use Rattle.run_endings.specs.Ran.{MissesNothingElse}
use Rattle.run_endings.specs.Requested.{AsksFor}
use Rattle.trace_run.specs.Requested.{Asks, names_of, new_names}
use Rattle.trace_run.specs.Work.{Worked, bytes_mean}
use Rattle.run_endings.proofs.Endings.{if_known, stored_none, unmoved, untouched, unheld, because, refused_by, finished_nothing, Around, CleanAround, ended_complete, ended_around, keeps_out, no_memory_map, unbegun}
use Rattle.run_endings.proofs.Requesting.{asked_first, asked_none, asked_still, asks_for}
use Rattle.trace_run.proofs.Reading.{gathers_nothing}

-- AFTER A HEADER

-- no name was asked for
unasked : (command : FileCommand) (means : Option Meaning) (seen : Outside) → AsksFor (new_names command) means seen.folder.requested seen.folder.requested
unasked command means seen =
    asks_for (new_names command) means seen.folder.requested seen.folder.requested (λ news. asked_none (new_names command news) seen.folder.requested)

-- a command that only prints leaves the folder alone
pub printed_worked : (command : FileCommand) (unread : Type 0) (means : Option Meaning) (status : Status) (folder : FolderSeen) (before now : SinkSeen)
    → target_of command ≡ on_out → Prints unread means status before now → Worked command unread means status (beside folder before) (beside folder now)
printed_worked command unread means status folder before now on prints = record {
  ended = subst (λ (t : Target). Ended t unread means status (beside folder before) (beside folder now)) (sym on) (prints folder);
  counts = unmoved folder.counts;
  requested = unasked command means (beside folder before);
  out = subst (λ (t : Target). KeepsOut t before now) (sym on) tt;
}

header_meaning : (command : FileCommand) (header : Header) (told : Option (List ℕ)) → ReadsHeader told (Ok header)
    → option_map (header_means command header) told ≡ option_map (bytes_mean command) told
header_meaning command header None found = refl
header_meaning command header (Some bytes) found = ap (λ (read : Result Header OpenFault). Some (input_means command (input_with (input_of command) bytes read))) (sym found)

-- what a command did after a header is what it means of the file
pub behind_header : (command : FileCommand) (header : Header) (told same : Option (List ℕ)) (unread other : Type 0) (status : Status) (before now : Outside) → same ≡ told
    → ReadsHeader told (Ok header) → (unread → other) → Worked command unread (option_map (header_means command header) same) status before now
    → Worked command other (option_map (bytes_mean command) told) status before now
behind_header command header told same unread other status before now is found so worked =
    let meant : option_map (header_means command header) same ≡ option_map (bytes_mean command) told =
    ap (option_map (header_means command header)) is ∙ header_meaning command header told found in
    record {
      ended =
          because (target_of command) unread other (option_map (bytes_mean command) told) status before now so
          (subst (λ (means : Option Meaning). Ended (target_of command) unread means status before now) meant worked.ended);
      counts = worked.counts;
      requested = subst (λ (means : Option Meaning). AsksFor (new_names command) means before.folder.requested now.folder.requested) meant worked.requested;
      out = worked.out;
    }

-- the header could not be read
pub header_unread : (command : FileCommand) (means : Option Meaning) (unread : Type 0) (seen : Outside) → unread → Worked command unread means ReadFault seen seen
header_unread command means unread seen rose = record {
  ended = record {
    ends = if_known (λ m. Ends m ReadFault seen seen) means (λ m. record {
      output = (0, gained_nothing seen.out.written);
      files = (0, stored_none seen.folder.files seen.folder.files refl);
      created = omega arith;
    });
    untouched = tt;
    causes = rose;
    kept = tt;
  };
  counts = unmoved seen.folder.counts;
  requested = unasked command means seen;
  out = keeps_out (target_of command) seen.out;
}

-- there was no memory for the header
pub header_unheld : (command : FileCommand) (means : Option Meaning) (unread : Type 0) (seen : Outside) → Worked command unread means NoMemory seen seen
header_unheld command means unread seen = record {
  ended = unheld (target_of command) unread means seen;
  counts = unmoved seen.folder.counts;
  requested = unasked command means seen;
  out = keeps_out (target_of command) seen.out;
}

-- the file has no header
pub header_refused : (command : FileCommand) (fault : OpenFault) (told : Option (List ℕ)) (unread : Type 0) (seen : Outside) → IsRefusal fault
    → ReadsHeader told (Err fault) → Worked command unread (option_map (bytes_mean command) told) (Refused fault) seen seen
header_refused command fault told unread seen refusal found = record {
  ended = record { ends = refused told found; untouched = untouched seen; causes = refusal; kept = tt };
  counts = unmoved seen.folder.counts;
  requested = unasked command (option_map (bytes_mean command) told) seen;
  out = keeps_out (target_of command) seen.out;
}
  where
    refused : (known : Option (List ℕ)) → ReadsHeader known (Err fault)
        → IfSome (option_map (bytes_mean command) known) (λ m. Ends m (Refused fault) seen seen)
    refused None found = tt
    refused (Some bytes) found =
        subst (λ (read : Result Header OpenFault). Ends (input_means command (input_with (input_of command) bytes read)) (Refused fault) seen seen) (sym (refused_by fault (header_of bytes) refusal found))
        (finished_nothing (Refused fault) seen)

module _ (before opened worked now : Outside) (around : Around before opened worked now) where
  -- what a command did with an opened file is what it means of the file's name
  pub command_ended : (command : FileCommand) (told : Option NamedFiles) (bytes : Option (List ℕ)) (unread other : Type 0) (status : Status)
      → IsFileOf told (input_of command) bytes → (unread → other) → IfNoMemory status (CleanAround before opened worked now)
      → Ended (target_of command) unread (option_map (bytes_mean command) bytes) status opened worked
      → Ended (target_of command) other (option_map (command_meaning command) told) status before now
  command_ended command told bytes unread other status file so clean ended =
      let here = ended_around before opened worked now around (target_of command) unread other (option_map (bytes_mean command) bytes) status so clean ended in
      record { ends = by_told told file here.ends; untouched = here.untouched; causes = here.causes; kept = here.kept }
    where
      by_found : (found : Option (List ℕ)) → IsSome found → bytes ≡ found
          → IfSome (option_map (bytes_mean command) bytes) (λ m. Ends m status before now)
          → Ends (input_means command (input_found (input_of command) found)) status before now
      by_found None there is ends = absurd (let bad : ⊥ = cc in bad)
      by_found (Some known) there is ends =
          subst (λ (b : Option (List ℕ)). IfSome (option_map (bytes_mean command) b) (λ m. Ends m status before now)) is ends

      by_told : (known : Option NamedFiles) → IsFileOf known (input_of command) bytes
          → IfSome (option_map (bytes_mean command) bytes) (λ m. Ends m status before now)
          → IfSome (option_map (command_meaning command) known) (λ m. Ends m status before now)
      by_told None is ends = tt
      by_told (Some files) is ends = by_found (get files (input_of command)) is.0 is.1 ends

pub command_asked : (command : FileCommand) → IsUnasked (target_of command) → ⊥
command_asked (Report words) unasked = unasked
command_asked (Dump words) unasked = unasked
command_asked (Split words) unasked = unasked

-- words without a reading, and nothing done
pub ran_unasked : (fault : UsageFault) (before : Outside) → Ran (Err fault) Usage before before
ran_unasked fault before =
    let how : Ended on_nothing ⊥ (Some (only Usage)) Usage before before =
    record { ends = finished_nothing Usage before; untouched = untouched before; causes = tt; kept = tt } in
    record {
      job = record {
        ended = how;
        complete = ended_complete on_nothing ⊥ (Some (only Usage)) Usage before before how;
        misses = λ other. refl;
        closes = λ opened closed. omega arith;
        opens = omega arith;
      };
      usage = (inl refl, refl);
      requested = refl;
      reads = tt;
      gathers = tt;
    }

-- there was no memory to read the words, and nothing was touched
pub ran_unread : (read : Result Job UsageFault) (before : Outside) → Ran read NoMemory before before
ran_unread read before =
    record {
      job = unbegun (target_read read) (Unread read before before) (meaning_read read before.folder.files) (most_opened read) before;
      usage = keeps_off read;
      requested = asks_nothing read;
      reads = tt;
      gathers = gathers_none read;
    }
  where
    asks_nothing : (r : Result Job UsageFault) → Asks r (meaning_read r before.folder.files) before.folder.requested before.folder.requested
    asks_nothing (Ok job) =
        asks_for (names_of job) (meaning_read (Ok job) before.folder.files) before.folder.requested before.folder.requested
        (λ news. asked_none (names_of job news) before.folder.requested)
    asks_nothing (Err fault) = refl

    gathers_none : (r : Result Job UsageFault) → GathersCalls r before.folder.files NoMemory before.out before.out
    gathers_none (Ok (OnFile command)) =
        if_known _ before.folder.files (λ files. gathers_nothing command (input_named files (input_of command)) NoMemory before.out)
    gathers_none (Ok (OnFiles words)) = tt
    gathers_none (Ok (SelfTest words)) = tt
    gathers_none (Ok (Restore words)) = tt
    gathers_none (Ok (About topic)) = tt
    gathers_none (Err fault) = tt

    keeps_off : (r : Result Job UsageFault) → KeepsOff r NoMemory before before
    keeps_off (Ok (OnFile command)) = ((λ is. cc), keeps_out (target_of command) before.out)
    keeps_off (Ok (OnFiles words)) = ((λ is. cc), refl)
    keeps_off (Ok (SelfTest words)) = ((λ is. cc), refl)
    keeps_off (Ok (Restore words)) = ((λ is. cc), refl, λ unread. refl)
    keeps_off (Ok (About topic)) = ((λ is. cc), refl)
    keeps_off (Err fault) = (inr refl, refl)

-- the input could not be opened
pub unopened_ended : (command : FileCommand) (told : Option NamedFiles) (unread : Type 0) (before now : Outside) → unread
    → now.out.written ≡ before.out.written → now.folder.files ≡ before.folder.files → now.folder.counts.created ≡ before.folder.counts.created
    → Ended (target_of command) unread (option_map (command_meaning command) told) ReadFault before now
unopened_ended command told unread before now rose output files created = record {
  ends = if_known (λ m. Ends m ReadFault before now) (option_map (command_meaning command) told) (λ m. record {
    output = (0, output ∙ gained_nothing before.out.written);
    files = (0, stored_none before.folder.files now.folder.files files);
    created = omega (arith, created);
  });
  untouched = tt;
  causes = rose;
  kept = tt;
}

misses_unless_found : (command : FileCommand) (found : Option (List ℕ)) (before now : Counts) → now.misses ≡ (if is_none found then raised before.misses 1 else before.misses)
    → MissesNothingElse (input_means command (input_found (input_of command) found)) before now
misses_unless_found command None before now is = λ other. absurd (other refl)
misses_unless_found command (Some bytes) before now is = λ other. is

-- the input's name was asked for, and no other
pub command_misses : (command : FileCommand) (told : Option NamedFiles) (name : List ℕ) (before mid now : Counts) → name ≡ input_of command
    → IfSome told (λ files. mid.misses ≡ misses_after files name before.misses) → now.misses ≡ mid.misses
    → IfSome (option_map (command_meaning command) told) (λ m. MissesNothingElse m before now)
command_misses command None name before mid now is asked same = tt
command_misses command (Some files) name before mid now is asked same =
    misses_unless_found command (get files (input_of command)) before now
    (same ∙ subst (λ (n : List ℕ). mid.misses ≡ misses_after files n before.misses) is asked)

-- THE FILE OF A COMMAND

-- where there was no memory, no read of the file failed while it was open
pub clean_around : (status : Status) (faults faults_now reads : ℕ) (before opened worked now : Outside) → opened.folder.counts.reading ≡ before.folder.counts.reading
    → opened.folder.counts.writing ≡ before.folder.counts.writing → faults ≡ 0 → Closes faults_now reads worked.folder.counts now.folder.counts
    → IfNoMemory status (faults_now ≡ faults) → IfNoMemory status (CleanAround before opened worked now)
clean_around status faults faults_now reads before opened worked now reading writing none closes = no_memory_map status clean
  where
    clean : faults_now ≡ faults → CleanAround before opened worked now
    clean same = record {
      first = record { reading = reading; writing = writing };
      last = record { reading = closes.clean (same ∙ none); writing = closes.writing };
    }

-- the input's name was asked for, and after it those of new files
pub command_asks : (command : FileCommand) (told : Option NamedFiles) (bytes : Option (List ℕ)) (name : List ℕ) (before opened worked now : List (List ℕ)) → name ≡ input_of command
    → IsFileOf told (input_of command) bytes → opened ≡ before ++ name ∷ [] → AsksFor (new_names command) (option_map (bytes_mean command) bytes) opened worked → now ≡ worked
    → AsksFor (names_of (OnFile command)) (option_map (command_meaning command) told) before now
command_asks command told bytes name before opened worked now is file one did still = record {
  news = did.news;
  meant = by_told told file;
  asked = asked_still (input_of command ∷ new_names command did.news) before worked now still
      (asked_first (new_names command did.news) before opened worked (input_of command) (one ∙ ap (λ (n : List ℕ). before ++ n ∷ []) is) did.asked);
}
  where
    by_found : (found : Option (List ℕ)) → IsSome found → bytes ≡ found → did.news ≡ length (input_means command (input_found (input_of command) found)).files
    by_found None there is = absurd (let bad : ⊥ = cc in bad)
    by_found (Some known) there is =
        subst (λ (b : Option (List ℕ)). IfSome (option_map (bytes_mean command) b) (λ m. did.news ≡ length m.files)) is did.meant

    by_told : (known : Option NamedFiles) → IsFileOf known (input_of command) bytes → IfSome (option_map (command_meaning command) known) (λ m. did.news ≡ length m.files)
    by_told None is = tt
    by_told (Some files) is = by_found (get files (input_of command)) is.0 is.1

-- or its name alone
pub unopened_asks : (command : FileCommand) (means : Option Meaning) (name : List ℕ) (before now : List (List ℕ)) → name ≡ input_of command → now ≡ before ++ name ∷ []
    → AsksFor (names_of (OnFile command)) means before now
unopened_asks command means name before now is one =
    asks_for (names_of (OnFile command)) means before now
    (λ news. asked_first (new_names command news) before now now (input_of command) (one ∙ ap (λ (n : List ℕ). before ++ n ∷ []) is) (asked_none (new_names command news) now))
