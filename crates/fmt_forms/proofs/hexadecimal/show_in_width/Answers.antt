use Rattle.std.proofs.Common.{◌≡◌, List, ℕ, ◌++◌, ◌-◌, take, drop, length, length-drop, replicate, ap, ◌∙◌, arith, false}
use Rattle.std.specs.Fmt.{digits}
use Rattle.std.proofs.lemmas.List.{take_all}
use Rattle.fmt_forms.proofs.Gathering.{put_shown, joined_twice}
use Rattle.fmt_forms.specs.Gathered.{Gathered, gathered, joined}
use Rattle.fmt_forms.proofs.DigitLemmas.{first_digits}
use Rattle.fmt_forms.proofs.HexLemmas.{length_hex}
use Rattle.fmt_forms.proofs.hexadecimal.show_in_width.Goals as goal

pub write_hexadecimal-start-requires : goal.write_hexadecimal-start-requires
write_hexadecimal-start-requires c = record { room = length_hex c.args.n c.ranges.n.fits; within = omega arith }

pub returns : goal.returns
returns c =
    let start = c.write_hexadecimal-start.result in
    let room = c.write_hexadecimal-start.new.room in
    let shown = digits 16 false c.args.n in
    let before = gathered c.show_zeros.new.into in
    let is_len : 16 - start ≡ length shown = omega (arith, c.write_hexadecimal-start.ensures.start) in
    put_shown c.show_zeros.new.into c.put_front.new.self _ c.put_front.ensures.same_slice c.put_front.ensures.held
    ∙ ap (λ (l : List ℕ). joined before (take (16 - start) l)) (take_all (32 - start) (drop start room) (omega (arith, length-drop start room, c.write_hexadecimal-start.auto.room)))
    ∙ ap (joined before) (first_digits (16 - start) _ shown _ c.write_hexadecimal-start.ensures.written is_len)
    ∙ ap (λ (g : Gathered). joined g shown) c.show_zeros.ensures
    ∙ joined_twice (gathered c.args.into.now) (replicate c.saturating_sub-lacking.result 48) shown
    ∙ ap (λ (count : ℕ). joined (gathered c.args.into.now) (replicate count 48 ++ shown)) c.saturating_sub-lacking.ensures
    ∙ ap (λ (count : ℕ). joined (gathered c.args.into.now) (replicate (c.args.width - count) 48 ++ shown)) is_len
