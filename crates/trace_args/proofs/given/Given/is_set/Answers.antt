use Rattle.std.proofs.Common.{ap, map, sym, ◌∙◌}
use Rattle.std.specs.List.{list_any}
use Rattle.trace_args.specs.Given.{sets}
use Rattle.trace_args.specs.Views.{setting_view}
use Rattle.trace_args.proofs.GivenLaws.{any_viewed}
use Rattle.trace_args.proofs.Kept.{set_any}
use Rattle.trace_args.proofs.given.Given.is_set.Goals as goal

pub returns : goal.returns
returns c =
    let kept = c.args.self.now.kept.items in
    c.any_sets.ensures ∙ ap (list_any (λ s. sets c.args.option (setting_view s))) c.deref.ensures.value
    ∙ sym (any_viewed (sets c.args.option) kept) ∙ sym (set_any c.args.option (map setting_view kept)) ∙ c.args.self.now.asked.flags c.args.option
