use Rattle.std.proofs.Common.{List, ℕ, ◌++◌, ◌-◌, [], ap, ◌∙◌, false}
use Rattle.std.specs.Prelude.{codes}
use Rattle.std.specs.Fmt.{digits}
use Rattle.std.specs.Option.{option_map}
use Rattle.fmt_forms.specs.Gathered.{gathered, joined}
use Rattle.fmt_forms.proofs.Gathering.{kept_shown}
use Rattle.fmt_forms.specs.Texts.{cut_to, padded}
use Rattle.fmt_forms.proofs.CutLemmas.{cut_two}
use Rattle.fmt_forms.proofs.text.show_cut_address.Goals as goal

pub returns : goal.returns
returns c =
    let shown = c.cut_to-shown.ensures ∙ ap (λ p. cut_to p c.written-digits.result.now) c.behind_prefix.ensures ∙ ap (λ ds. cut_to (option_map (λ p. p - 2) c.args.precision) ds) c.written-digits.ensures in
    kept_shown c.args.into.now c.put_padded.new.into _ c.put_padded.ensures.same_slice c.put_padded.ensures.value
    ∙ ap (λ (t : List ℕ). joined (gathered c.args.into.now) (padded c.args.form.now.left c.args.form.now.width t))
    (ap (λ a. a ++ (c.cut_to-shown.result.now ++ [])) c.cut_to-prefix.ensures
    ∙ ap (λ b. cut_to c.args.precision (codes "0x") ++ (b ++ [])) shown
    ∙ cut_two c.args.precision (digits 16 false c.args.n))
