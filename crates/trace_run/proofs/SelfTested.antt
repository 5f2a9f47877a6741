-- What a self-test prints, and all that is said of a run that is one.
use Rattle.std.proofs.Common.{◌≡◌, ℕ, List, [], Option, Some, Result, Ok, Err, IfOk, refl, sym, ap, subst, ◌∙◌, arith, map}
use Rattle.trace_outside.specs.Writing.{Gained}
use Rattle.trace_args.specs.Command.{SelfData, ReportData}
use Rattle.trace_gen.specs.Summary.{summary_line}
use Rattle.run_endings.specs.declared.status.Status.{Status}
use Rattle.run_endings.specs.Ending.{Prints}
use Rattle.run_words.specs.Job.{SelfTest}
use Rattle.run_endings.specs.Meaning.{on_out}
use Rattle.trace_run.specs.Meaning.{self_test}
use Rattle.run_endings.specs.Outside.{FolderSeen, SinkSeen, beside}
use Rattle.trace_run.specs.Ran.{Ran}
use Rattle.trace_run.specs.Requested.{names_of}
use Rattle.trace_run.specs.Selftest.{generated_report, self_test_line, plain_report}
use Rattle.run_endings.proofs.Endings.{ended_complete, not_usage}
use Rattle.run_endings.proofs.Requesting.{asked_none, asks_for}
use Rattle.run_endings.proofs.Reading.{any_answer}
use Rattle.filter_truth.specs.SelectionView.{use_of}
use Rattle.filter_truth.specs.declared.select.FilterUse.{FilterUse}
use Rattle.run_words.specs.Usage.{uses_in}

some_is : (x y : List ℕ) → Some x ≡ Some y → x ≡ y
some_is x y same = cc

-- the line of a report that a sink in memory gained
pub line_is : {E : Type 0} (words : SelfData) (start told : Option (List ℕ)) (report : List ℕ) (result : Result (List ℕ) E) → start ≡ Some []
    → Gained start told (generated_report words.seed words.events) → told ≡ Some report → IfOk result (λ line. line ≡ summary_line words.seed words.events report)
    → IfOk result (λ line. line ≡ self_test_line words)
unfolding self_test_line
line_is words start told report (Err error) empty gained is summed = tt
line_is words start told report (Ok line) empty gained is summed =
    let gains : told ≡ Some (generated_report words.seed words.events) = subst (λ (t : Option (List ℕ)). Gained t told (generated_report words.seed words.events)) empty gained in
    summed ∙ ap (summary_line words.seed words.events) (some_is report (generated_report words.seed words.events) (sym is ∙ gains))

-- all that is said of a run holds of a self-test
pub self_tested : (words : SelfData) (status : Status) (folder : FolderSeen) (before now : SinkSeen) → Prints ⊥ (Some (self_test words)) status before now
    → Ran (Ok (SelfTest words)) status (beside folder before) (beside folder now)
self_tested words status folder before now prints =
    let ended = prints folder in
    record {
      job = record {
        ended = ended;
        complete = ended_complete on_out ⊥ (Some (self_test words)) status (beside folder before) (beside folder now) ended;
        misses = λ other. refl;
        closes = λ opened closed. omega arith;
        opens = omega arith;
      };
      usage = (not_usage on_out ⊥ status (beside folder before) (beside folder now) (λ unasked. unasked) ended.causes, refl);
      requested = asks_for (names_of (SelfTest words)) (Some (self_test words)) folder.requested folder.requested (λ news. asked_none [] folder.requested);
      reads = any_answer status refl;
      gathers = tt;
    }

-- words without filters
pub no_uses : (report : ReportData) (workers : ℕ) (uses : List FilterUse) → report ≡ record plain_report { workers = workers } → uses ≡ [] → uses_in report.filters ≡ map use_of uses
unfolding uses_in
no_uses report workers uses plain none = ap (λ (r : ReportData). uses_in r.filters) plain ∙ sym (ap (map use_of) none)
