-- What was said, by what a sink gained.
use Rattle.std.proofs.Common.{◌≡◌, ℕ, List, [], ◌∷◌, ◌++◌, append_assoc, refl, Result, Ok, Err, OnOk, OnErr, sym, subst}
use Rattle.trace_outside.specs.Causes.{HasCause}
use Rattle.trace_outside.specs.Writing.{Gained, GainedPrefix}
use Rattle.trace_outside.proofs.Gains.{prefix_whole}
use Rattle.trace_outside.specs.Pieces.{text_of}
use Rattle.run_words.specs.declared.usage.UsageFault.{UsageFault}
use Rattle.run_words.specs.Job.{Job, OnFile, OnFiles, SelfTest, Restore, About}
use Rattle.run_endings.specs.declared.status.Status.TheVariants.{Usage, NoMemory}
use Rattle.run_endings.specs.declared.status.Status.{Status}
use Rattle.std.proofs.lemmas.List.{append-nil}
use Rattle.std.specs.Prelude.{codes}
use Rattle.trace_run.specs.Meaning.{input_of}
use Rattle.several_report.proofs.InputNames.{first_of, named_any}
use Rattle.trace_run.specs.Messages.{IsLineRead, Says, message, usage_line}
use Rattle.trace_run.specs.Naming.{IsNamed}
use Rattle.run_endings.specs.Outside.{FolderSeen, SinkSeen}

pub says_of : {T E : Type 0} (result : Result T E) (line : List ℕ) (before now : SinkSeen)
    → OnOk result (Gained before.written now.written line) → OnErr result (GainedPrefix before.written now.written line)
    → HasCause before.faults now.faults result → Says line before now
says_of (Ok value) line before now gained prefix cause =
    record { prefix = prefix_whole before.written now.written line gained; whole = λ calm. gained }
says_of (Err error) line before now gained prefix cause =
    record { prefix = prefix; whole = λ calm. absurd (calm cause.failed) }

-- want of memory says the same, whatever the words are
pub wanting : (read : Result Job UsageFault) (seen : FolderSeen) → IsLineRead read NoMemory seen seen (message [] NoMemory)
wanting (Ok (OnFile command)) seen = (input_of command, refl, refl)
wanting (Ok (OnFiles words)) seen = (words.input, (named_any words seen.files words.input NoMemory (first_of words) (λ inputs. tt), tt), refl)
wanting (Ok (SelfTest words)) seen = ([], refl, refl)
wanting (Ok (Restore words)) seen = (words.input, refl, refl)
wanting (Ok (About topic)) seen = ([], refl, refl)
wanting (Err fault) seen = refl

-- what is said of words without a reading
pub usage_said : (fault : UsageFault) (read : Result Job UsageFault) (before now : FolderSeen) → read ≡ Err fault → IsLineRead read Usage before now (usage_line fault)
usage_said fault read before now is = subst (λ (reading : Result Job UsageFault). IsLineRead reading Usage before now (usage_line fault)) (sym is) refl

-- what is said of a job, by the file that it names
pub job_said : (job : Job) (read : Result Job UsageFault) (name : List ℕ) (status : Status) (before now : FolderSeen) → read ≡ Ok job → IsNamed job status before now name
    → IsLineRead read status before now (message name status)
job_said job read name status before now is named = subst (λ (reading : Result Job UsageFault). IsLineRead reading status before now (message name status)) (sym is) (name, named, refl)

-- a text that was pushed in four pieces
pub four_pushed : (none first second third fourth a b c d page cpu : List ℕ) → none ≡ [] → first ≡ none ++ a → second ≡ first ++ b → third ≡ second ++ c → fourth ≡ third ++ d
    → b ≡ page → d ≡ cpu → fourth ≡ text_of (a ∷ page ∷ c ∷ cpu ∷ [])
four_pushed none first second third fourth a b c d page cpu none_is first_is second_is third_is fourth_is page_is cpu_is =
    rw (fourth_is, third_is, second_is, first_is, none_is, page_is, cpu_is) (joined a page c cpu)
  where
    joined : (a b c d : List ℕ) → (((([] ++ a) ++ b) ++ c) ++ d) ≡ text_of (a ∷ b ∷ c ∷ d ∷ [])
    joined a b c d = simp (append_assoc, append-nil)

-- what is said of an input, by what its name and the text are
pub said_of : (input name what said : List ℕ) (before now : SinkSeen) → name ≡ input → said ≡ what
    → Says (text_of (codes "trace-cmd: " ∷ name ∷ codes ": " ∷ said ∷ codes "\n" ∷ [])) before now
    → Says (text_of (codes "trace-cmd: " ∷ input ∷ codes ": " ∷ what ∷ codes "\n" ∷ [])) before now
said_of input name what said before now named is says =
    subst (λ (n : List ℕ). Says (text_of (codes "trace-cmd: " ∷ n ∷ codes ": " ∷ what ∷ codes "\n" ∷ [])) before now) named
    (subst (λ (w : List ℕ). Says (text_of (codes "trace-cmd: " ∷ name ∷ codes ": " ∷ w ∷ codes "\n" ∷ [])) before now) is says)
