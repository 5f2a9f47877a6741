-- How many bytes of its input a run reads.
use Rattle.std.proofs.Common.{◌≡◌, ◌≤◌, ◌+◌, ℕ, List, length, Option, None, Some, IfSome, IfOk, Result, Ok, Err, sym, subst, arith, refl}
use Rattle.trace_outside.specs.Causes.{raised}
use Rattle.trace_outside.specs.Folders.{IsFileOf}
use Rattle.trace_outside.specs.Names.{NamedFiles}
use Rattle.dat_options.specs.declared.fault.OpenFault.{OpenFault}
use Rattle.dat_header.specs.declared.header.Header.{Header}
use Rattle.dat_header.specs.Header.{ReadsHeader}
use Rattle.run_endings.specs.declared.status.Status.{Status}
use Rattle.several_report.specs.Inputs.{NamedInput, WrongInput, input_found, input_with}
use Rattle.trace_run.specs.Input.{GathersCalls, ReadsNeeded, ReadsNoMore, events_of, share, shows_calls}
use Rattle.run_endings.specs.Progress.{BehindHeader, progress_at}
use Rattle.file_report.specs.Due.{ReadsDue}
use Rattle.run_words.specs.Job.{FileCommand, OnFile}
use Rattle.trace_run.specs.Meaning.{input_of}
use Rattle.file_report.specs.Report.{Events}
use Rattle.run_endings.proofs.Reading.{behind_header_map, any_answer}
use Rattle.run_endings.specs.Output.{GathersFirst}
use Rattle.run_endings.specs.Outside.{SinkSeen}

-- what is due by a text, where so many bytes were read before
due_later : (known : Option Events) (old now : Option (List ℕ)) (first before mid reads : ℕ) → mid ≤ raised before first
    → IfSome known (λ events. ReadsDue events 0 (progress_at old mid) (progress_at now reads)) → IfSome known (λ events. ReadsDue events first (progress_at old before) (progress_at now reads))
due_later None old now first before mid reads most due = tt
due_later (Some events) old now first before mid reads most due = (due.0, (due.1.0, omega (arith, most, due.1.1)))

-- a header, and after it the command's share
pub read_behind_header : (command : FileCommand) (header : Header) (told same old now : Option (List ℕ)) (status : Status) (size before mid reads : ℕ) → same ≡ told
    → IfSome told (λ bytes. length bytes ≡ size) → ReadsHeader told (Ok header) → mid ≤ raised before header.end → reads ≤ raised mid (share command header size)
    → IfSome same (λ bytes. IfSome (events_of command header bytes) (λ events. ReadsDue events 0 (progress_at old mid) (progress_at now reads)))
    → BehindHeader status (IfOk (input_found (input_of command) told) (λ input. ReadsNoMore command input (progress_at old before) (progress_at now reads)))
read_behind_header command header told same old now status size before mid reads kept is found first then due =
    any_answer status (by_told told is found
    (subst (λ (known : Option (List ℕ)). IfSome known (λ bytes. IfSome (events_of command header bytes) (λ events. ReadsDue events 0 (progress_at old mid) (progress_at now reads)))) kept due))
  where
    by_told : (known : Option (List ℕ)) → IfSome known (λ bytes. length bytes ≡ size) → ReadsHeader known (Ok header)
        → IfSome known (λ bytes. IfSome (events_of command header bytes) (λ events. ReadsDue events 0 (progress_at old mid) (progress_at now reads)))
        → IfOk (input_found (input_of command) known) (λ input. ReadsNoMore command input (progress_at old before) (progress_at now reads))
    by_told None long is due = tt
    by_told (Some bytes) long is due =
        subst (λ (read : Result Header OpenFault). IfOk (input_with (input_of command) bytes read) (λ input. ReadsNoMore command input (progress_at old before) (progress_at now reads))) (sym is) record {
          needed = subst (λ (n : ℕ). reads ≤ raised before (header.end + share command header n)) (sym long) (omega (arith, first, then));
          due = due_later (events_of command header bytes) old now header.end before mid reads first due;
        }

-- what was read from a file is what the folder counts when it is closed
due_counted : (known : Option Events) (old now : Option (List ℕ)) (first reads before last : ℕ) → last ≡ raised before reads
    → IfSome known (λ events. ReadsDue events first (progress_at old 0) (progress_at now reads)) → IfSome known (λ events. ReadsDue events first (progress_at old before) (progress_at now last))
due_counted None old now first reads before last is due = tt
due_counted (Some events) old now first reads before last is due = (due.0, (due.1.0, omega (arith, is, due.1.1)))

counted : (command : FileCommand) (input : Result NamedInput WrongInput) (status : Status) (old now : Option (List ℕ)) (reads before last : ℕ) → last ≡ raised before reads
    → BehindHeader status (IfOk input (λ file. ReadsNoMore command file (progress_at old 0) (progress_at now reads)))
    → BehindHeader status (IfOk input (λ file. ReadsNoMore command file (progress_at old before) (progress_at now last)))
counted command input status old now reads before last is = behind_header_map status (by_input input)
  where
    by_input : (found : Result NamedInput WrongInput) → IfOk found (λ file. ReadsNoMore command file (progress_at old 0) (progress_at now reads))
        → IfOk found (λ file. ReadsNoMore command file (progress_at old before) (progress_at now last))
    by_input (Err wrong) most = tt
    by_input (Ok file) most = record {
      needed = omega (arith, is, most.needed);
      due = due_counted (events_of command file.header file.bytes) old now file.header.end reads before last is most.due;
    }

pub command_reads : (command : FileCommand) (told : Option NamedFiles) (bytes : Option (List ℕ)) (status : Status) (old now : Option (List ℕ)) (reads before last : ℕ)
    → IsFileOf told (input_of command) bytes → last ≡ raised before reads
    → BehindHeader status (IfOk (input_found (input_of command) bytes) (λ input. ReadsNoMore command input (progress_at old 0) (progress_at now reads)))
    → BehindHeader status (ReadsNeeded (Ok (OnFile command)) told (progress_at old before) (progress_at now last))
command_reads command None bytes status old now reads before last file is most = any_answer status tt
command_reads command (Some files) bytes status old now reads before last file is most =
    subst (λ (found : Option (List ℕ)). BehindHeader status (IfOk (input_found (input_of command) found) (λ input. ReadsNoMore command input (progress_at old before) (progress_at now last)))) file.1
    (counted command (input_found (input_of command) bytes) status old now reads before last is most)

-- GATHERED BEFORE THE FIRST BYTE

-- what holds of a header that was read holds of the input
pub gathers_behind_header : (command : FileCommand) (header : Header) (told : Option (List ℕ)) (status : Status) (before now : SinkSeen) → ReadsHeader told (Ok header)
    → GathersFirst (shows_calls command header) status before now
    → IfOk (input_found (input_of command) told) (λ input. GathersFirst (shows_calls command input.header) status before now)
gathers_behind_header command header None status before now found gathers = tt
gathers_behind_header command header (Some bytes) status before now found gathers =
    subst (λ (read : Result Header OpenFault). IfOk (input_with (input_of command) bytes read) (λ input. GathersFirst (shows_calls command input.header) status before now)) (sym found) gathers

pub gathers_nothing : (command : FileCommand) (input : Result NamedInput WrongInput) (status : Status) (out : SinkSeen)
    → IfOk input (λ file. GathersFirst (shows_calls command file.header) status out out)
gathers_nothing command (Ok file) status out = λ calls unread. refl
gathers_nothing command (Err wrong) status out = tt

pub command_gathers : (command : FileCommand) (told : Option NamedFiles) (bytes : Option (List ℕ)) (status : Status) (before now : SinkSeen)
    → IsFileOf told (input_of command) bytes → IfOk (input_found (input_of command) bytes) (λ input. GathersFirst (shows_calls command input.header) status before now)
    → GathersCalls (Ok (OnFile command)) told status before now
command_gathers command None bytes status before now file gathers = tt
command_gathers command (Some files) bytes status before now file gathers =
    subst (λ (found : Option (List ℕ)). IfOk (input_found (input_of command) found) (λ input. GathersFirst (shows_calls command input.header) status before now)) file.1 gathers
