use Rattle.std.proofs.Common.{◌-◌, arith, refl}
use Rattle.trace_base.proofs.Layouts.{carried}
use Rattle.page_write.proofs.Filling.{length-record_text, payload_few}
use Rattle.page_write.proofs.Holding.{earlier_full, far_full, long_full, holds_next}
use Rattle.page_write.proofs.adding.add_next.Goals as goal

pub returns-then-time-page : goal.returns-then-time-page
returns-then-time-page c = λ y ys h. (earlier_full c.args.layout.now c.args.page c.args.into.now y ys c.args.time c.args.payload.now h (omega arith), refl)

pub returns-then-step : goal.returns-then-step
returns-then-step c = λ y ys h. (far_full c.args.layout.now c.args.page c.args.into.now y ys c.args.time c.args.payload.now h (omega arith), refl)

pub end_of_record-requires : goal.end_of_record-requires
end_of_record-requires c = omega (arith, payload_few c.args.layout.now c.args.time c.args.payload.now c.requires.packable, carried c.args.layout.now)

pub put_record-behind-requires-clause-few : goal.put_record-behind-requires-clause-few
put_record-behind-requires-clause-few c = omega (arith, payload_few c.args.layout.now c.args.time c.args.payload.now c.requires.packable)

pub returns : goal.returns
returns c = λ y ys h.
    holds_next c.args.layout.now c.args.page _ c.args.into.now c.put_record-behind.new.into y ys c.args.time c.args.payload.now (carried c.args.layout.now) h c.requires.packable c.requires.whole
    (omega arith) (omega arith) (omega (arith, c.end_of_record.ensures, c.len_of_lost.ensures)) c.put_record-behind.ensures.put refl refl (omega (arith, c.put_record-behind.ensures.end, length-record_text c.args.layout.now.order (c.args.time - c.args.page.time) c.args.payload.now)) refl

pub returns-then-end_of_record-end : goal.returns-then-end_of_record-end
returns-then-end_of_record-end c = λ y ys h. (long_full c.args.layout.now c.args.page c.args.into.now y ys c.args.time c.args.payload.now h (omega (arith, c.end_of_record.ensures, c.len_of_lost.ensures)), refl)
