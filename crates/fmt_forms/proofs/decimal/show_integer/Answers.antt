use Rattle.std.proofs.Common.{Bool, ◌++◌, sym, ap, ◌∙◌}
use Rattle.std.specs.Fmt.{decimal}
use Rattle.fmt_forms.specs.Gathered.{gathered, joined}
use Rattle.fmt_forms.specs.Plain.{minus}
use Rattle.fmt_forms.proofs.PlainLemmas.{plain}
use Rattle.fmt_forms.proofs.decimal.show_integer.Goals as goal

pub returns-then-is_plain : goal.returns-then-is_plain
returns-then-is_plain c =
    c.show_decimal.ensures
    ∙ ap (λ (negative : Bool). joined (gathered c.args.into.now) (minus negative ++ decimal c.args.magnitude)) c.has_minus.ensures
    ∙ ap (joined (gathered c.args.into.now)) (plain c.args.base c.args.form.now c.args.negative c.args.magnitude c.ranges.magnitude.fits (sym c.is_plain.ensures ∙ c.if-is_plain.true))
