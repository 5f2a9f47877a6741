use Rattle.std.proofs.Common.{ap, map, ◌∙◌}
use Rattle.std.specs.List.{slice_get}
use Rattle.trace_args.specs.declared.option.ValuedOption.TheVariants.{Source}
use Rattle.trace_args.specs.Given.{value_at}
use Rattle.trace_args.specs.Views.{setting_view}
use Rattle.trace_args.proofs.given.Given.source.Goals as goal

pub returns : goal.returns
returns c =
    c.nth_in.ensures ∙ ap (λ settings. value_at c.args.place Source (map setting_view settings)) c.deref.ensures.value
    ∙ ap (λ values. slice_get values c.args.place) c.args.self.now.asked.sources
