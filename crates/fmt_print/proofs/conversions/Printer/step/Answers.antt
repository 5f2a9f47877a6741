use Rattle.std.proofs.Common.{ap, ◌∙◌}
use Rattle.fmt_forms.specs.Gathered.{Gathered, gathered, joined}
use Rattle.fmt_forms.proofs.Gathering.{joined_twice}
use Rattle.fmt_print.specs.ArgumentView.{trees}
use Rattle.fmt_print.specs.Sources.{source}
use Rattle.fmt_print.specs.Steps.{literal_text, printed_some, shown_directive}
use Rattle.fmt_print.proofs.conversions.Printer.step.Goals as goal

pub returns : goal.returns
returns c =
    let from = source c.args.self.now in
    let behind = printed_some from (shown_directive c.args.step.now.shown) (trees c.args.args.now) in (
      c.shown.ensures.0
          ∙ ap (λ (g : Gathered). joined g behind.0) c.literal.ensures
          ∙ joined_twice (gathered c.args.into.now) (literal_text from.text c.args.step.now.literal) behind.0,
      c.shown.ensures.1,
    )
