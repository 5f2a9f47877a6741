-- How a part of a run ended, by what it did.
use Rattle.std.proofs.Common.{◌≡◌, ◌≢◌, ◌≤◌, inl, inr, arith, length, take, ℕ, List, [], Option, None, Some, IfSome, refl, sym, ◌∙◌, subst, slice_get, Result, Err}
use Rattle.std.specs.Option.{IsSomeAnd, option_map}
use Rattle.trace_outside.specs.Causes.{Rose, raised}
use Rattle.trace_outside.specs.declared.counts.Counts.{Counts}
use Rattle.trace_outside.specs.Memory.{KeepsFaults}
use Rattle.trace_outside.specs.Names.{NamedFiles}
use Rattle.trace_outside.proofs.Gains.{gained_nothing}
use Rattle.trace_outside.specs.Writing.{Gained, GainedPrefix}
use Rattle.trace_outside.specs.Pieces.{text_of}
use Rattle.std.specs.Prelude.{◌⊎◌}
use Rattle.new_files.specs.Stored.{NewFile, Stored, FilesStored, FirstFilesStored, IsNextOpen, KeepsCounts}
use Rattle.dat_options.specs.declared.fault.OpenFault.{OpenFault}
use Rattle.dat_options.specs.declared.fault.OpenFault.TheVariants.{NotTrace, Compressed, OtherVersion, BadEndian, BadLong, BadPageSize, BadHeaderPage, BadSection, Truncated, TooManyCpus, Read, Memory}
use Rattle.dat_options.specs.Answer.{AnswersUnlessFaulty}
use Rattle.dat_header.specs.declared.header.Header.{Header}
use Rattle.dat_header.specs.Header.{IsRefusal}
use Rattle.run_endings.specs.declared.status.Status.{Status}
use Rattle.run_endings.specs.declared.status.Status.TheVariants.{Done, Usage, Refused, Malformed, ReadFault, WriteFault, NoMemory}
use Rattle.run_endings.specs.Ending.{CountsNoFault, Ended, Ends, Finished, IfNoMemory, IsCaused, IsComplete, IsUnasked, LeavesAll, Prints, Untouched, Unwritten, KeepsOut}
use Rattle.run_endings.specs.Meaning.{Meaning, Target, on_nothing, on_out, on_folder, only}
use Rattle.run_endings.specs.Outside.{Outside, SinkSeen, beside}
use Rattle.run_endings.specs.Ran.{JobRan, MissesNothingElse}

-- what holds of anything holds of what is known
pub if_known : {A : Type 0} (p : A → Type 0) (known : Option A) → ((x : A) → p x) → IfSome known p
if_known p None each = tt
if_known p (Some x) each = each x

pub known_so : {A : Type 0} (p q : A → Type 0) (known : Option A) → ((x : A) → p x → q x) → IfSome known p → IfSome known q
known_so p q None so fact = tt
known_so p q (Some x) so fact = so x fact

-- no file was stored, and the map is as before
pub stored_none : (told now : Option NamedFiles) → now ≡ told → FilesStored [] told now
stored_none None now same = tt
stored_none (Some files) now same = subst (λ (after : Option NamedFiles). IsSomeAnd after (λ n. n ≡ files)) (sym same) refl

pub stored_first_none : (news : List NewFile) (counts : Counts) (told now : Option NamedFiles) → now ≡ told → FirstFilesStored news counts counts told now
stored_first_none news counts None now same = tt
stored_first_none news counts (Some files) now same =
    subst (λ (after : Option NamedFiles). FirstFilesStored news counts counts (Some files) after) (sym same) (0, files, refl, inl refl)

-- the same as `FirstFilesStored`, by the count of files that could not be finished
abbrev FirstStored : List NewFile → ℕ → ℕ → Option NamedFiles → Option NamedFiles → Type 0
FirstStored news old new before now = IfSome before (λ files. IsSomeAnd now (λ after.
    (count : ℕ) × (middle : NamedFiles) × Stored (take count news) files middle
    × ((after ≡ middle) ⊎ (Rose old new × IsNextOpen (slice_get news count) middle after))))

pub unmoved : (counts : Counts) → KeepsCounts counts counts
unmoved counts = record {
  reading = omega arith;
  writing = omega arith;
  unfinished = omega arith;
  misses = refl;
  opened = refl;
  closed = refl;
  bytes = refl;
}

pub untouched : (seen : Outside) → Untouched seen seen
untouched seen = record { output = refl; files = refl; created = refl }

pub keeps_out : (target : Target) (out : SinkSeen) → KeepsOut target out out
keeps_out on_nothing out = tt
keeps_out on_out out = tt
keeps_out on_folder out = refl

-- a fault is counted nowhere
pub faultless : (seen : Outside) → CountsNoFault seen seen
faultless seen = record { folder = record { reading = refl; writing = refl }; out = refl }

-- what holds of any answer holds where there was no memory
pub if_no_memory : (claim : Type 0) (status : Status) → claim → IfNoMemory status claim
if_no_memory claim NoMemory holds = holds
if_no_memory claim Done holds = tt
if_no_memory claim Usage holds = tt
if_no_memory claim (Refused fault) holds = tt
if_no_memory claim (Malformed cut) holds = tt
if_no_memory claim ReadFault holds = tt
if_no_memory claim WriteFault holds = tt

-- what follows from a claim for where there was none, and from two
pub no_memory_map : {one two : Type 0} → (status : Status) → (one → two) → IfNoMemory status one → IfNoMemory status two
no_memory_map NoMemory follows claim = follows claim
no_memory_map Done follows claim = tt
no_memory_map Usage follows claim = tt
no_memory_map (Refused fault) follows claim = tt
no_memory_map (Malformed cut) follows claim = tt
no_memory_map ReadFault follows claim = tt
no_memory_map WriteFault follows claim = tt

pub both_no_memory : {one two three : Type 0} → (status : Status) → (one → two → three) → IfNoMemory status one → IfNoMemory status two → IfNoMemory status three
both_no_memory NoMemory follows a b = follows a b
both_no_memory Done follows a b = tt
both_no_memory Usage follows a b = tt
both_no_memory (Refused fault) follows a b = tt
both_no_memory (Malformed cut) follows a b = tt
both_no_memory ReadFault follows a b = tt
both_no_memory WriteFault follows a b = tt

pub unheld : (target : Target) (unread : Type 0) (means : Option Meaning) (seen : Outside) → Ended target unread means NoMemory seen seen
unheld target unread means seen = record {
  ends = if_known (λ m. Ends m NoMemory seen seen) means (λ m. untouched seen);
  untouched = untouched seen;
  causes = tt;
  kept = faultless seen;
}

pub unprinted : (unread : Type 0) (means : Option Meaning) (out : SinkSeen) → Prints unread means NoMemory out out
unprinted unread means out = λ folder. unheld on_out unread means (beside folder out)

pub caused_by : (target : Target) (unread other : Type 0) (status : Status) (before now : Outside) → (unread → other)
    → IsCaused target unread status before now → IsCaused target other status before now
caused_by target unread other Done before now so caused = tt
caused_by target unread other Usage before now so caused = caused
caused_by target unread other (Refused fault) before now so caused = caused
caused_by target unread other (Malformed cut) before now so caused = tt
caused_by target unread other ReadFault before now so caused = so caused
caused_by target unread other WriteFault before now so caused = caused
caused_by target unread other NoMemory before now so caused = tt

pub because : (target : Target) (unread other : Type 0) (means : Option Meaning) (status : Status) (before now : Outside) → (unread → other)
    → Ended target unread means status before now → Ended target other means status before now
because target unread other means status before now so ended = record {
  ends = ended.ends;
  untouched = ended.untouched;
  causes = caused_by target unread other status before now so ended.causes;
  kept = ended.kept;
}

-- of what means the same whatever the file's bytes are
pub means_always : (target : Target) (unread : Type 0) (m : Meaning) (told : Option (List ℕ)) (status : Status) (before now : Outside)
    → Ended target unread (Some m) status before now → Ended target unread (option_map (λ bytes. m) told) status before now
means_always target unread m told status before now ended = record {
  ends = by_told told;
  untouched = ended.untouched;
  causes = ended.causes;
  kept = ended.kept;
}
  where
    by_told : (known : Option (List ℕ)) → IfSome (option_map (λ bytes. m) known) (λ means. Ends means status before now)
    by_told None = tt
    by_told (Some bytes) = ended.ends

-- what reads nothing but means something of the file's bytes
pub prints_always : (unread : Type 0) (m : Meaning) (told : Option (List ℕ)) (status : Status) (before now : SinkSeen)
    → Prints ⊥ (Some m) status before now → Prints unread (option_map (λ bytes. m) told) status before now
prints_always unread m told status before now prints = λ folder.
    because on_out ⊥ unread (option_map (λ bytes. m) told) status (beside folder before) (beside folder now) (λ never. absurd never)
    (means_always on_out ⊥ m told status (beside folder before) (beside folder now) (prints folder))

pub refused_by : (fault : OpenFault) (expected : Result Header OpenFault) → IsRefusal fault → AnswersUnlessFaulty (Err fault) expected → expected ≡ Err fault
refused_by Read expected refusal answers = absurd refusal
refused_by Memory expected refusal answers = absurd refusal
refused_by (NotTrace place) expected refusal answers = answers
refused_by (Compressed place) expected refusal answers = answers
refused_by (OtherVersion place) expected refusal answers = answers
refused_by (BadEndian place) expected refusal answers = answers
refused_by (BadLong place) expected refusal answers = answers
refused_by (BadPageSize place) expected refusal answers = answers
refused_by (BadHeaderPage place) expected refusal answers = answers
refused_by (BadSection place) expected refusal answers = answers
refused_by (Truncated place) expected refusal answers = answers
refused_by (TooManyCpus place) expected refusal answers = answers

-- nothing was done, and that is what it means
pub finished_nothing : (status : Status) (seen : Outside) → Finished (only status) status seen seen
finished_nothing status seen = record {
  answer = refl;
  output = gained_nothing seen.out.written;
  files = stored_none seen.folder.files seen.folder.files refl;
  created = omega arith;
}

-- The folder opened a file before and closed it afterwards. No name changed by that, and no count of files created or of those
-- that could not be finished.
pub record Around (before opened worked now : Outside) : Type 0 where
  pub files_first : opened.folder.files ≡ before.folder.files
  pub files_then : now.folder.files ≡ worked.folder.files
  pub out_first : opened.out ≡ before.out
  pub out_then : now.out ≡ worked.out
  pub created_first : opened.folder.counts.created ≡ before.folder.counts.created
  pub created_then : now.folder.counts.created ≡ worked.folder.counts.created
  pub unfinished_first : opened.folder.counts.unfinished ≡ before.folder.counts.unfinished
  pub unfinished_then : now.folder.counts.unfinished ≡ worked.folder.counts.unfinished
  pub writing_first : before.folder.counts.writing ≤ opened.folder.counts.writing
  pub writing_then : worked.folder.counts.writing ≤ now.folder.counts.writing

-- opening the file and closing it moved no count of faults
pub record CleanAround (before opened worked now : Outside) : Type 0 where
  pub first : KeepsFaults before.folder.counts opened.folder.counts
  pub last : KeepsFaults worked.folder.counts now.folder.counts

module _ (before opened worked now : Outside) (around : Around before opened worked now) where
  unwritten_around : (target : Target) → Unwritten target opened worked → Unwritten target before now
  unwritten_around on_nothing rose = rose
  unwritten_around on_out rose =
      subst (λ (out : SinkSeen). Rose out.faults now.out.faults) around.out_first
      (subst (λ (out : SinkSeen). Rose opened.out.faults out.faults) (sym around.out_then) rose)
  unwritten_around on_folder rose = omega (arith, around.writing_first, around.writing_then, rose)

  -- a relation of what was written, one of the files, and one of how many were created
  written_around : (p : Option (List ℕ) → Option (List ℕ) → Type 0) → p opened.out.written worked.out.written → p before.out.written now.out.written
  written_around p was =
      subst (λ (out : SinkSeen). p out.written now.out.written) around.out_first
      (subst (λ (out : SinkSeen). p opened.out.written out.written) (sym around.out_then) was)

  files_around : (p : Option NamedFiles → Option NamedFiles → Type 0) → p opened.folder.files worked.folder.files → p before.folder.files now.folder.files
  files_around p was =
      subst (λ (files : Option NamedFiles). p files now.folder.files) around.files_first
      (subst (λ (files : Option NamedFiles). p opened.folder.files files) (sym around.files_then) was)

  created_around : (p : ℕ → ℕ → Type 0) → p opened.folder.counts.created worked.folder.counts.created → p before.folder.counts.created now.folder.counts.created
  created_around p was =
      subst (λ (n : ℕ). p n now.folder.counts.created) around.created_first
      (subst (λ (n : ℕ). p opened.folder.counts.created n) (sym around.created_then) was)

  unfinished_around : (p : ℕ → ℕ → Type 0) → p opened.folder.counts.unfinished worked.folder.counts.unfinished
      → p before.folder.counts.unfinished now.folder.counts.unfinished
  unfinished_around p was =
      subst (λ (n : ℕ). p n now.folder.counts.unfinished) around.unfinished_first
      (subst (λ (n : ℕ). p opened.folder.counts.unfinished n) (sym around.unfinished_then) was)

  untouched_around : Untouched opened worked → Untouched before now
  untouched_around was = record {
    output = written_around (λ old new. new ≡ old) was.output;
    files = files_around (λ old new. new ≡ old) was.files;
    created = created_around (λ old new. new ≡ old) was.created;
  }

  finished_around : (m : Meaning) (status : Status) → Finished m status opened worked → Finished m status before now
  finished_around m status ends = record {
    answer = ends.answer;
    output = written_around (λ old new. Gained old new (text_of m.pieces)) ends.output;
    files = files_around (λ old new. FilesStored m.files old new) ends.files;
    created = created_around (λ old new. new ≡ raised old (length m.files)) ends.created;
  }

  ends_around : (m : Meaning) (status : Status) → Ends m status opened worked → Ends m status before now
  ends_around m NoMemory ends = untouched_around ends
  ends_around m ReadFault ends = record {
    output = written_around (λ old new. (count : ℕ) × Gained old new (text_of (take count m.pieces))) ends.output;
    files = files_around (λ old new. (count : ℕ) × FilesStored (take count m.files) old new) ends.files;
    created = created_around (λ old new. new ≤ raised old (length m.files)) ends.created;
  }
  ends_around m WriteFault ends = record {
    output = written_around (λ old new. GainedPrefix old new (text_of m.pieces)) ends.output;
    files = files_around (λ old new. FirstFilesStored m.files before.folder.counts now.folder.counts old new)
        (unfinished_around (λ old new. FirstStored m.files old new opened.folder.files worked.folder.files) ends.files);
    created = created_around (λ old new. new ≤ raised old (length m.files)) ends.created;
  }
  ends_around m Done ends = finished_around m Done ends
  ends_around m Usage ends = finished_around m Usage ends
  ends_around m (Refused fault) ends = finished_around m (Refused fault) ends
  ends_around m (Malformed cut) ends = finished_around m (Malformed cut) ends

  leaves_around : (status : Status) → LeavesAll status opened worked → LeavesAll status before now
  leaves_around NoMemory leaves = untouched_around leaves
  leaves_around Usage leaves = untouched_around leaves
  leaves_around (Refused fault) leaves = untouched_around leaves
  leaves_around Done leaves = tt
  leaves_around ReadFault leaves = tt
  leaves_around WriteFault leaves = tt
  leaves_around (Malformed cut) leaves = tt

  caused_around : (target : Target) (unread other : Type 0) (status : Status) → (unread → other) → IsCaused target unread status opened worked
      → IsCaused target other status before now
  caused_around target unread other Done so caused = tt
  caused_around target unread other Usage so caused = caused
  caused_around target unread other (Refused fault) so caused = caused
  caused_around target unread other (Malformed cut) so caused = tt
  caused_around target unread other ReadFault so caused = so caused
  caused_around target unread other WriteFault so caused = unwritten_around target caused
  caused_around target unread other NoMemory so caused = tt

  faultless_around : CleanAround before opened worked now → CountsNoFault opened worked → CountsNoFault before now
  faultless_around well was = record {
    folder = record {
      reading = well.last.reading ∙ was.folder.reading ∙ well.first.reading;
      writing = well.last.writing ∙ was.folder.writing ∙ well.first.writing;
    };
    out = around.out_then ∙ was.out ∙ around.out_first;
  }

  pub ended_around : (target : Target) (unread other : Type 0) (means : Option Meaning) (status : Status) → (unread → other)
      → IfNoMemory status (CleanAround before opened worked now) → Ended target unread means status opened worked → Ended target other means status before now
  ended_around target unread other means status so well ended = record {
    ends = known_so (λ m. Ends m status opened worked) (λ m. Ends m status before now) means
        (λ m ends. ends_around m status ends) ended.ends;
    untouched = leaves_around status ended.untouched;
    causes = caused_around target unread other status so ended.causes;
    kept = both_no_memory status faultless_around well ended.kept;
  }

-- what ends in one of the four ways is complete
pub ended_complete : (target : Target) (unread : Type 0) (means : Option Meaning) (status : Status) (before now : Outside) → Ended target unread means status before now
    → IfSome means (λ m. IsComplete target unread m status before now)
ended_complete target unread means status before now ended =
    known_so (λ m. Ends m status before now) (λ m. IsComplete target unread m status before now) means
    (λ m ends. complete m status ended.causes ends) ended.ends
  where
    complete : (m : Meaning) (answer : Status) → IsCaused target unread answer before now → Ends m answer before now → IsComplete target unread m answer before now
    complete m Done caused ends = λ done read written. inl refl
    complete m NoMemory caused ends = λ done read written. inr refl
    complete m ReadFault caused ends = λ done read written. absurd (read caused)
    complete m WriteFault caused ends = λ done read written. absurd (written caused)
    complete m Usage caused ends = λ done read written. inl (ends.answer ∙ done)
    complete m (Refused fault) caused ends = λ done read written. inl (ends.answer ∙ done)
    complete m (Malformed cut) caused ends = λ done read written. inl (ends.answer ∙ done)

pub not_usage : (target : Target) (unread : Type 0) (status : Status) (before now : Outside) → (IsUnasked target → ⊥) → IsCaused target unread status before now → status ≢ Usage
not_usage target unread Usage before now asked caused = λ is. asked caused
not_usage target unread Done before now asked caused = λ is. cc
not_usage target unread (Refused fault) before now asked caused = λ is. cc
not_usage target unread (Malformed cut) before now asked caused = λ is. cc
not_usage target unread ReadFault before now asked caused = λ is. cc
not_usage target unread WriteFault before now asked caused = λ is. cc
not_usage target unread NoMemory before now asked caused = λ is. cc

-- there was no memory to begin, and nothing was touched
pub unbegun : (target : Target) (unread : Type 0) (means : Option Meaning) (most : ℕ) (seen : Outside) → JobRan target unread means most NoMemory seen seen
unbegun target unread means most seen =
    let how = unheld target unread means seen in
    record {
      ended = how;
      complete = ended_complete target unread means NoMemory seen seen how;
      misses = if_known (λ m. MissesNothingElse m seen.folder.counts seen.folder.counts) means (λ m other. refl);
      closes = λ opened closed. omega arith;
      opens = omega arith;
    }
