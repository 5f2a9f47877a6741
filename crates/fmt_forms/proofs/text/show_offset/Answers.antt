use Rattle.std.proofs.Common.{◌++◌, ap, ◌∙◌, false}
use Rattle.std.specs.Prelude.{codes}
use Rattle.std.specs.Fmt.{digits}
use Rattle.fmt_forms.specs.Gathered.{Gathered, gathered, joined}
use Rattle.fmt_forms.proofs.Gathering.{put_shown, joined_twice}
use Rattle.fmt_forms.proofs.PlainLemmas.{padded_bare}
use Rattle.fmt_forms.proofs.text.show_offset.Goals as goal

pub returns-then-form-eq0 : goal.returns-then-form-eq0
returns-then-form-eq0 c =
    let offset = codes "+0x" ++ digits 16 false c.args.behind in
    c.show_hexadecimal.ensures
    ∙ ap (λ (g : Gathered). joined g offset) (put_shown c.args.into.now c.put_piece.new.self c.args.name.now c.put_piece.ensures.same_slice c.put_piece.ensures.held)
    ∙ joined_twice (gathered c.args.into.now) c.args.name.now offset
    ∙ ap (joined (gathered c.args.into.now)) (padded_bare c.args.form.now.left c.args.form.now.width (c.args.name.now ++ offset) c.if-form-eq0.true)
