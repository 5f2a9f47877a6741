use Rattle.std.proofs.Common.{ap, ◌∙◌}
use Rattle.fmt_forms.specs.Gathered.{gathered, joined}
use Rattle.fmt_forms.proofs.Gathering.{kept_shown}
use Rattle.fmt_forms.proofs.LaidLemmas.{padded_alone}
use Rattle.fmt_forms.proofs.PlainLemmas.{padded_bare}
use Rattle.fmt_forms.proofs.text.show_text.Goals as goal

pub returns-then-form-eq0 : goal.returns-then-form-eq0
returns-then-form-eq0 c =
    c.show_piece.ensures
    ∙ ap (joined (gathered c.args.into.now)) (padded_bare c.args.form.now.left c.args.form.now.width c.args.text.now c.if-form-eq0.true)

pub returns-else-form-eq0 : goal.returns-else-form-eq0
returns-else-form-eq0 c =
    kept_shown c.args.into.now c.put_padded.new.into _ c.put_padded.ensures.same_slice c.put_padded.ensures.value
    ∙ ap (joined (gathered c.args.into.now)) (padded_alone c.args.form.now.left c.args.form.now.width c.args.text.now)
