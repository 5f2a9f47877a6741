use Rattle.std.proofs.Common.{ap, sym, ◌∙◌}
use Rattle.trace_args.specs.declared.setting.Setting as declared
use Rattle.trace_args.specs.Given.{is_kept}
use Rattle.trace_args.specs.GivenView.{given_view}
use Rattle.trace_args.specs.Views.{setting_view}
use Rattle.trace_args.proofs.Kept.{kept_else}
use Rattle.trace_args.proofs.given.Given.is_kept.Goals as goal

pub returns-else-eq : goal.returns-else-eq
returns-else-eq c =
    kept_else _ c.eq.result c.has.result _ c.eq.ensures c.if-eq.false c.has.ensures
    ∙ ap (λ (at : declared.Setting). is_kept (given_view c.args.self.now) (setting_view at)) (sym c.in-Valued.is)
