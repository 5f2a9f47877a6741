-- What the words of a restore that have a reading keep: they name at most 256 data files.
use Rattle.std.proofs.Common.{◌≡◌, ℕ, ◌+◌, ◌≤◌, List, [], ◌∷◌, length, Option, Some, None, if◌then◌else◌, refl, sym, subst, arith}
use Rattle.std.specs.Prelude.{is_some}
use Rattle.std.specs.List.{filter_map}
use Rattle.trace_args.specs.declared.fault.WordKind.TheVariants.{Unknown}
use Rattle.trace_args.specs.declared.option.ValuedOption.TheVariants as valued
use Rattle.trace_args.specs.declared.tool.Tool.{Tool}
use Rattle.trace_args.specs.declared.tool.Tool.TheVariants as tool
use Rattle.trace_args.specs.Asked.{restore_of, work_of}
use Rattle.trace_args.specs.Command.{RestoreData, Restore}
use Rattle.trace_args.specs.Faults.{fault, fault_of, exclusion, refusal, repetition, IsClean}
use Rattle.trace_args.specs.Given.{texts_of, value_at, value_for, values_of}
use Rattle.trace_args.specs.Reading.{Reads}
use Rattle.trace_args.specs.Setting.{Text, Setting, Flag, Valued, Help, Stray}
use Rattle.trace_args.proofs.HelpLaws.{works}
use Rattle.run_words.proofs.FewValues.{first_none, mapped_none, second_none, short_of, values_few}

abbrev files : List Setting → List Text
files settings = values_of valued.DataFile settings

none_at : (found : Option Text) → (if is_some found then Some Unknown else None) ≡ None → found ≡ None
none_at None h = refl
none_at (Some text) h = cc

-- another data file has room
room : (done : List Setting) (word : ℕ) (value : Option Text) → fault_of done (Valued valued.DataFile word value) ≡ None → length (files done) ≤ 255
room done word value h =
    let refused : refusal done valued.DataFile ≡ None = mapped_none (fault word) (refusal done valued.DataFile) (first_none _ _ h) in
    let excluded : exclusion done valued.DataFile ≡ None = second_none (repetition done valued.DataFile) (exclusion done valued.DataFile) refused in
    short_of (files done) 255 (none_at (value_at 255 valued.DataFile done) excluded)

-- one more setting
at_most : (done : List Setting) (at : Setting) → length (files done) ≤ 256 → fault_of done at ≡ None → length (files done) + length (filter_map (value_for valued.DataFile) (at ∷ [])) ≤ 256
at_most done (Flag given word) few h = omega (arith, few)
at_most done Help few h = omega (arith, few)
at_most done (Stray word) few h = omega (arith, few)
at_most done (Valued valued.DataFile word None) few h = omega (arith, few)
at_most done (Valued valued.DataFile word (Some text)) few h = omega (arith, room done word (Some text) h)
at_most done (Valued option word value) few h = omega (arith, few)

files_few : (settings : List Setting) → IsClean settings → length (texts_of valued.DataFile settings) ≤ 256
files_few settings clean = values_few valued.DataFile 256 at_most settings clean

by_tool : (command : Tool) (settings : List Setting) (words : RestoreData) → IsClean settings → Restore words ≡ work_of command settings → length words.files ≤ 256
by_tool tool.Restore settings words clean is =
    let same : words ≡ restore_of settings = cc in
    subst (λ (w : RestoreData). length w.files ≤ 256) (sym same) (files_few settings clean)
by_tool tool.Report settings words clean is = cc
by_tool tool.Dump settings words clean is = cc
by_tool tool.SelfTest settings words clean is = cc
by_tool tool.Split settings words clean is = cc

pub restore_few : (given : List (List ℕ)) (words : RestoreData) → Reads given (Restore words) → length words.files ≤ 256
restore_few given words reads =
    let asks = works given (Restore words) (λ topic is. cc) reads in
    by_tool asks.command asks.settings words asks.clean asks.work_is
