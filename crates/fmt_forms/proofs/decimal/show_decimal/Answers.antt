use Rattle.std.proofs.Common.{ap, ◌∙◌}
use Rattle.std.specs.Fmt.{decimal}
use Rattle.fmt_forms.specs.Plain.{minus}
use Rattle.fmt_forms.specs.Gathered.{Gathered, gathered, joined}
use Rattle.fmt_forms.proofs.Gathering.{joined_twice}
use Rattle.fmt_forms.proofs.decimal.show_decimal.Goals as goal

pub returns : goal.returns
returns c =
    c.show_digits.ensures
    ∙ ap (λ (g : Gathered). joined g (decimal c.args.magnitude)) c.show_minus.ensures
    ∙ joined_twice (gathered c.args.into.now) (minus c.args.negative) (decimal c.args.magnitude)
