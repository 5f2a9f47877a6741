-- What is promised where a file could not be opened or read, or there was no memory, so that nothing was made.
use Rattle.std.proofs.Common.{◌≡◌, ◌≢◌, ◌⊎◌, ℕ, ◌≤◌, List, Option, Some, None, Result, Err, inl, inr, refl, ap, ◌∙◌, arith}
use Rattle.std.specs.Option.{IfSome}
use Rattle.trace_outside.specs.declared.counts.Counts.{Counts}
use Rattle.trace_outside.specs.Causes.{Rose}
use Rattle.trace_outside.specs.Folders.{Closes}
use Rattle.trace_outside.specs.Names.{NamedFiles}
use Rattle.trace_outside.specs.Open.{AreThere}
use Rattle.dat_options.specs.declared.fault.OpenFault.{OpenFault}
use Rattle.dat_options.specs.declared.fault.OpenFault.TheVariants.{Read, Memory}
use Rattle.dat_options.specs.Answer.{AnswersUnlessFaulty}
use Rattle.dat_header.specs.declared.header.Header.{Header}
use Rattle.dat_header.specs.Partial.{ReadsPartial, partial_of}
use Rattle.restore_tool.specs.Answers.{Causes, ClosesAll, Created, KeepsFiles, fault_of_open}
use Rattle.restore_tool.specs.Meaning.{IsDone, NamesData, missing, with_header, with_texts, texts_of}
use Rattle.restore_tool.proofs.Answered.{not_missing}

-- THE HEADER OF THE PARTIAL FILE

task_unread : (names : NamesData) (output : List ℕ) (start now : Counts) (named : NamedFiles) (new : Option NamedFiles) (expected : Result Header OpenFault) (fault : OpenFault)
    → AnswersUnlessFaulty {T = Header} (Err fault) expected → new ≡ Some named → now.created ≡ start.created → IsDone (with_header named names expected) output start now named new (Err (fault_of_open fault))
task_unread names output start now named new expected Read reads same few = (same, omega (arith, few))
task_unread names output start now named new expected Memory reads same few = same
task_unread names output start now named new expected fault reads same few = (ap (with_header named names) reads, same)

pub partial_unread : (names : NamesData) (output : List ℕ) (start now : Counts) (old new : Option NamedFiles) (bytes : Option (List ℕ)) (fault : OpenFault)
    → ReadsPartial bytes (Err fault) → new ≡ old → now.created ≡ start.created → IfSome old (λ named. IfSome bytes (λ bs. IsDone (with_header named names (partial_of bs)) output start now named new (Err (fault_of_open fault))))
partial_unread names output start now None new bytes fault reads same few = tt
partial_unread names output start now (Some named) new None fault reads same few = tt
partial_unread names output start now (Some named) new (Some bs) fault reads same few = task_unread names output start now named new (partial_of bs) fault reads same few

pub unread_causes : (fault : OpenFault) (reading writing : Type 0) → (fault ≡ Read → reading) → Causes (Err (fault_of_open fault)) reading writing
unread_causes Read reading writing read = read refl
unread_causes Memory reading writing read = tt
unread_causes fault reading writing read = tt

pub unread_created : (fault : OpenFault) (before now : ℕ) → now ≡ before → Created (Err (fault_of_open fault)) before now
unread_created Read before now same = omega (arith, same)
unread_created Memory before now same = same
unread_created fault before now same = same

pub unread_kept : (fault : OpenFault) (old : Option NamedFiles) → KeepsFiles (Err (fault_of_open fault)) old old
unread_kept Read old = refl
unread_kept Memory old = refl
unread_kept fault old = refl

-- COUNTS AND NAMES

-- nothing happened
pub same_misses : (P : NamedFiles → List ℕ → Type 0) (old : Option NamedFiles) (bytes : Option (List ℕ)) (count : ℕ) → IfSome old (λ named. IfSome bytes (λ bs. P named bs → count ≡ count))
same_misses P None bytes count = tt
same_misses P (Some named) None count = tt
same_misses P (Some named) (Some bs) count = λ p. refl

pub none_missed : (P : NamedFiles → Type 0) (old : Option NamedFiles) (count : ℕ) → IfSome old (λ named. P named → count ≡ count)
none_missed P None count = tt
none_missed P (Some named) count = λ p. refl

pub misses_kept : (P : NamedFiles → Type 0) (old : Option NamedFiles) (before mid now : ℕ) → now ≡ mid → IfSome old (λ named. P named → mid ≡ before) → IfSome old (λ named. P named → now ≡ before)
misses_kept P None before mid now same misses = tt
misses_kept P (Some named) before mid now same misses = λ p. same ∙ misses p

pub closes_nothing : (most : ℕ) (counts : Counts) → ClosesAll most counts counts
closes_nothing most counts = record {
  reading = omega arith;
  writing = omega arith;
  unfinished = omega arith;
  count = 0;
  few = omega arith;
  opened = omega arith;
  closed = omega arith;
}

pub unopened_counts : (most : ℕ) (before now : Counts) → before.reading ≤ now.reading → before.writing ≤ now.writing → now.unfinished ≡ before.unfinished → now.opened ≡ before.opened → now.closed ≡ before.closed
    → ClosesAll most before now
unopened_counts most before now reading writing unfinished opened closed = record {
  reading = reading;
  writing = writing;
  unfinished = omega (arith, unfinished);
  count = 0;
  few = omega arith;
  opened = omega (arith, opened);
  closed = omega (arith, closed);
}

-- where there is something to make, no name was missed
pub texts_misses : (names : List (List ℕ)) (header : Header) (output : List ℕ) (old : Option NamedFiles) (before now : ℕ) → IfSome old (λ named. AreThere named names → now ≡ before)
    → IfSome old (λ named. with_texts header output (texts_of named names) ≢ missing → now ≡ before)
texts_misses names header output None before now there = tt
texts_misses names header output (Some named) before now there = λ some. there (not_missing named names header output some)

pub one_rose : (faults faults_now reads : ℕ) (start opened worked now : Counts) → start.reading ≤ opened.reading → opened.reading ≤ worked.reading → Closes faults_now reads worked now
    → Rose opened.reading worked.reading ⊎ Rose faults faults_now → Rose start.reading now.reading
one_rose faults faults_now reads start opened worked now first mid closes (inl rose) = omega (arith, first, rose, closes.reading)
one_rose faults faults_now reads start opened worked now first mid closes (inr rose) = let faulty = closes.faulty (omega (arith, rose)) in omega (arith, first, mid, faulty)
