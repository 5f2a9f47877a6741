use Rattle.std.proofs.Common.{List, ℕ, ap, ◌∙◌, arith}
use Rattle.std.proofs.lemmas.List.{take_all}
use Rattle.fmt_forms.specs.Gathered.{gathered, joined}
use Rattle.fmt_forms.proofs.Gathering.{put_shown}
use Rattle.fmt_forms.proofs.text.show_piece.Goals as goal

pub returns-in-1 : goal.returns-in-1
returns-in-1 c =
    put_shown c.args.into.now c.put.new.self _ c.put.ensures.same_slice c.put.ensures.held
    ∙ ap (λ (l : List ℕ). joined (gathered c.args.into.now) l) (take_all 1 c.args.text.now (omega (arith, c.in-1.is)))
