use Rattle.std.proofs.Common.{ap, ◌∙◌, false}
use Rattle.std.specs.Fmt.{digits}
use Rattle.fmt_forms.specs.Gathered.{Gathered, gathered, joined}
use Rattle.fmt_forms.proofs.Gathering.{put_shown, joined_twice}
use Rattle.fmt_forms.proofs.hexadecimal.show_hexadecimal.Goals as goal

pub returns : goal.returns
returns c =
    c.show_digits.ensures
    ∙ ap (λ (g : Gathered). joined g (digits 16 false c.args.n)) (put_shown c.args.into.now c.put.new.self c.args.before.now c.put.ensures.same_slice c.put.ensures.held)
    ∙ joined_twice (gathered c.args.into.now) c.args.before.now (digits 16 false c.args.n)
