-- What the words of a report that have a reading keep: they name at most 8 inputs.
use Rattle.std.proofs.Common.{◌≡◌, ℕ, ◌+◌, ◌≤◌, Bool, true, false, List, [], ◌∷◌, length, Option, Some, None, if◌then◌else◌, refl, sym, subst, arith}
use Rattle.std.specs.Prelude.{◌&&◌, ◌||◌, is_some, not}
use Rattle.std.specs.List.{filter_map}
use Rattle.std.proofs.lemmas.List.{length-drop}
use Rattle.trace_args.specs.declared.fault.WordKind.TheVariants.{Repeated}
use Rattle.trace_args.specs.declared.option.ValuedOption.TheVariants as valued
use Rattle.trace_args.specs.declared.tool.Tool.{Tool}
use Rattle.trace_args.specs.declared.tool.Tool.TheVariants as tool
use Rattle.trace_args.specs.Asked.{report_of, work_of}
use Rattle.trace_args.specs.Command.{ReportData, Report}
use Rattle.trace_args.specs.Faults.{fault, fault_of, exclusion, refusal, repetition, IsClean}
use Rattle.trace_args.specs.Given.{is_given, texts_of, value_at, value_for, values_of}
use Rattle.trace_args.specs.Options.{may_repeat}
use Rattle.trace_args.specs.Reading.{Reads}
use Rattle.trace_args.specs.Setting.{Text, Setting, Flag, Valued, Help, Stray}
use Rattle.run_words.specs.Allowed.{IsAllowedJob}
use Rattle.run_words.specs.Job.{report_by_more, report_job}
use Rattle.trace_args.proofs.HelpLaws.{works}
use Rattle.run_words.proofs.FewValues.{first_none, mapped_none, short_of, values_few}
use Rattle.run_words.proofs.Workers.{report_workers}

abbrev sources : List Setting → List Text
sources settings = values_of valued.Source settings

none_at : (given again : Bool) (found : Option Text) → (if (given || is_some found) || again then Some Repeated else None) ≡ None → found ≡ None
none_at given again None h = refl
none_at false again (Some text) h = cc
none_at true again (Some text) h = cc

-- another input has room
room : (done : List Setting) (word : ℕ) (value : Option Text) → fault_of done (Valued valued.Source word value) ≡ None → length (sources done) ≤ 7
room done word value h =
    let refused : refusal done valued.Source ≡ None = mapped_none (fault word) (refusal done valued.Source) (first_none _ _ h) in
    let repeated : repetition done valued.Source ≡ None = first_none (repetition done valued.Source) (exclusion done valued.Source) refused in
    short_of (sources done) 7 (none_at (is_given valued.Input done) (is_given valued.Source done && not (may_repeat valued.Source)) (value_at 7 valued.Source done) repeated)

at_most : (done : List Setting) (at : Setting) → length (sources done) ≤ 8 → fault_of done at ≡ None → length (sources done) + length (filter_map (value_for valued.Source) (at ∷ [])) ≤ 8
at_most done (Flag given word) few h = omega (arith, few)
at_most done Help few h = omega (arith, few)
at_most done (Stray word) few h = omega (arith, few)
at_most done (Valued valued.Source word None) few h = omega (arith, few)
at_most done (Valued valued.Source word (Some text)) few h = omega (arith, room done word (Some text) h)
at_most done (Valued option word value) few h = omega (arith, few)

more_few : (settings : List Setting) → IsClean settings → length (report_of settings).more ≤ 7
more_few settings clean = omega (arith, values_few valued.Source 8 at_most settings clean, length-drop 1 (texts_of valued.Source settings))

by_tool : (command : Tool) (settings : List Setting) (words : ReportData) → IsClean settings → Report words ≡ work_of command settings → length words.more ≤ 7
by_tool tool.Report settings words clean is =
    let same : words ≡ report_of settings = cc in
    subst (λ (w : ReportData). length w.more ≤ 7) (sym same) (more_few settings clean)
by_tool tool.Restore settings words clean is = cc
by_tool tool.Dump settings words clean is = cc
by_tool tool.SelfTest settings words clean is = cc
by_tool tool.Split settings words clean is = cc

inputs_few : (given : List (List ℕ)) (words : ReportData) → Reads given (Report words) → length words.more ≤ 7
inputs_few given words reads =
    let asks = works given (Report words) (λ topic is. cc) reads in
    by_tool asks.command asks.settings words asks.clean asks.work_is

pub report_allowed : (given : List (List ℕ)) (words : ReportData) → Reads given (Report words) → IsAllowedJob (report_job words)
report_allowed given words reads = by_more words.more (inputs_few given words reads)
  where
    by_more : (more : List (List ℕ)) → length words.more ≤ 7 → IsAllowedJob (report_by_more more words)
    by_more [] few = report_workers given words reads
    by_more (name ∷ names) few = few
