use Rattle.std.proofs.Common.{List, ℕ, ◌-◌, take, drop, length-drop, ap, ◌∙◌, arith}
use Rattle.std.specs.Fmt.{decimal}
use Rattle.std.proofs.lemmas.Fmt.{length-decimal-le}
use Rattle.std.proofs.lemmas.List.{take_all}
use Rattle.trace_base.specs.Kept.{put_held}
use Rattle.trace_base.specs.TailView.{held}
use Rattle.report_print.proofs.FieldPuts.{first_digits}
use Rattle.report_print.proofs.fields.put_digits.Goals as goal

pub write_digits-start-requires : goal.write_digits-start-requires
write_digits-start-requires c = (length-decimal-le 20 c.args.n (omega arith) (omega (arith, c.ranges.n.fits)) c.ranges.n.fits, omega arith)

pub returns-clause-value : goal.returns-clause-value
returns-clause-value c =
    let start = c.write_digits-start.result in
    let room = c.write_digits-start.new.buf in
    c.put_front.ensures.held
    ∙ ap (λ (l : List ℕ). put_held (held c.args.into.now) (take (20 - start) l)) (take_all (36 - start) (drop start room) (omega (arith, length-drop start room, c.write_digits-start.auto.buf)))
    ∙ ap (put_held (held c.args.into.now))
    (first_digits (20 - start) _ (decimal c.args.n) _ c.write_digits-start.ensures.written (omega (arith, c.write_digits-start.ensures.start)))
