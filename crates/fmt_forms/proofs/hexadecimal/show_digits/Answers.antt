use Rattle.std.proofs.Common.{List, ℕ, ◌-◌, take, drop, length-drop, ap, ◌∙◌, arith, false}
use Rattle.std.specs.Fmt.{digits}
use Rattle.std.proofs.lemmas.List.{take_all}
use Rattle.fmt_forms.proofs.Gathering.{put_shown}
use Rattle.fmt_forms.specs.Gathered.{gathered, joined}
use Rattle.fmt_forms.proofs.DigitLemmas.{first_digits}
use Rattle.fmt_forms.proofs.HexLemmas.{length_hex}
use Rattle.fmt_forms.proofs.hexadecimal.show_digits.Goals as goal

pub write_hexadecimal-start-requires : goal.write_hexadecimal-start-requires
write_hexadecimal-start-requires c = record { room = length_hex c.args.n c.ranges.n.fits; within = omega arith }

pub returns : goal.returns
returns c =
    let start = c.write_hexadecimal-start.result in
    let room = c.write_hexadecimal-start.new.room in
    put_shown c.args.into.now c.put_front.new.self _ c.put_front.ensures.same_slice c.put_front.ensures.held
    ∙ ap (λ (l : List ℕ). joined (gathered c.args.into.now) (take (16 - start) l)) (take_all (32 - start) (drop start room) (omega (arith, length-drop start room, c.write_hexadecimal-start.auto.room)))
    ∙ ap (λ (l : List ℕ). joined (gathered c.args.into.now) l)
    (first_digits (16 - start) _ (digits 16 false c.args.n) _ c.write_hexadecimal-start.ensures.written (omega (arith, c.write_hexadecimal-start.ensures.start)))
