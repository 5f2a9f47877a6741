use Rattle.std.proofs.Common.{ap, sym, ◌∙◌}
use Rattle.std.specs.List.{list_any}
use Rattle.trace_args.specs.Given.{is_help}
use Rattle.trace_args.specs.Views.{setting_view}
use Rattle.trace_args.proofs.GivenLaws.{any_viewed}
use Rattle.trace_args.proofs.given.Given.asks_help.Goals as goal

pub returns : goal.returns
returns c =
    c.any_helps.ensures ∙ ap (list_any (λ s. is_help (setting_view s))) c.deref.ensures.value
    ∙ sym (any_viewed is_help c.args.self.now.settings.items)
