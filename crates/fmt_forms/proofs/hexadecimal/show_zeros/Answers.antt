use Rattle.std.proofs.Common.{List, ℕ, take, ap, ◌∙◌, arith}
use Rattle.std.proofs.lemmas.List.{take-replicate}
use Rattle.fmt_forms.specs.Gathered.{gathered, joined}
use Rattle.fmt_forms.proofs.Gathering.{put_shown}
use Rattle.fmt_forms.proofs.hexadecimal.show_zeros.Goals as goal

pub returns-then-count-gt0 : goal.returns-then-count-gt0
returns-then-count-gt0 c =
    put_shown c.args.into.now c.put_front.new.self _ c.put_front.ensures.same_slice c.put_front.ensures.held
    ∙ ap (λ (l : List ℕ). joined (gathered c.args.into.now) (take c.args.count l)) c.block.ensures
    ∙ ap (joined (gathered c.args.into.now)) (take-replicate c.args.count 64 48 (omega arith))
