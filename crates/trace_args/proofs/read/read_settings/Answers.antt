use Rattle.std.proofs.Common.{◌≡◌, ◌∷◌, drop, rules}
use Rattle.trace_args.specs.GivenView.{given_view}
use Rattle.trace_args.specs.Settings.{AnyWord, settings}
use Rattle.trace_args.specs.SettingsView.{settings_left}
use Rattle.trace_args.specs.Views.{setting_view}
use Rattle.trace_args.proofs.ReadingLaws.{fault_found, fault_passed}
use Rattle.trace_args.proofs.read.read_settings.Goals as goal

pub returns-in_err-given-clause-fault : goal.returns-in_err-given-clause-fault
returns-in_err-given-clause-fault c =
    let all = settings c.args.tool AnyWord 2 (drop 1 c.args.words.now) in
    let wrong = c.in_err-given.field-0.0 in
    let next : settings_left c.loop-setting.setting-iterator ≡ setting_view c.in-Some.setting ∷ settings_left c.next.new.self = search rules in
    fault_passed all c.from_residual.result wrong _ (λ e h. h) c.from_residual.ensures.1
    (λ other. fault_found (given_view c.loop-setting.given) (setting_view c.in-Some.setting) _ _ all wrong (c.in_err-given.ensures.fault other) next c.loop-setting.invariant.first)
