use Rattle.symbols.proofs.Spots.{last_more, rise_more}
use Rattle.symbols.proofs.order.rising_front.Goals as goal

pub loop-i-preserved : goal.loop-i-preserved
loop-i-preserved c = record {
  below = last_more c.args.spots.now c.loop-i.i c.loop-i.last _ c.loop-i-test.true c.if-key-last.false c.loop-i.invariant.below;
  rises = rise_more c.args.spots.now c.loop-i.i c.loop-i.last _ c.loop-i-test.true c.if-key-last.false c.loop-i.invariant.below c.loop-i.invariant.rises;
}
