use Rattle.std.proofs.Common.{List, ℕ, ◌-◌, take, drop, length-drop, ap, ◌∙◌, arith}
use Rattle.std.specs.Fmt.{decimal}
use Rattle.std.proofs.lemmas.Fmt.{length-decimal-le}
use Rattle.std.proofs.lemmas.List.{take_all}
use Rattle.fmt_forms.proofs.Gathering.{put_shown}
use Rattle.fmt_forms.specs.Gathered.{gathered, joined}
use Rattle.fmt_forms.proofs.DigitLemmas.{first_digits}
use Rattle.fmt_forms.proofs.decimal.show_many.Goals as goal

pub write_digits-start-requires : goal.write_digits-start-requires
write_digits-start-requires c = (length-decimal-le 20 c.args.n (omega arith) (omega (arith, c.ranges.n.fits)) c.ranges.n.fits, omega arith)

pub returns : goal.returns
returns c =
    let start = c.write_digits-start.result in
    let room = c.write_digits-start.new.buf in
    put_shown c.args.into.now c.put_front.new.self _ c.put_front.ensures.same_slice c.put_front.ensures.held
    ∙ ap (λ (l : List ℕ). joined (gathered c.args.into.now) (take (20 - start) l)) (take_all (36 - start) (drop start room) (omega (arith, length-drop start room, c.write_digits-start.auto.buf)))
    ∙ ap (λ (l : List ℕ). joined (gathered c.args.into.now) l)
    (first_digits (20 - start) _ (decimal c.args.n) _ c.write_digits-start.ensures.written (omega (arith, c.write_digits-start.ensures.start)))
