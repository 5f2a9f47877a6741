use Rattle.symbols.proofs.Spots.{are_first}
use Rattle.symbols.proofs.order.ordered_front.Goals as goal

pub returns-else-least-spots : goal.returns-else-least-spots
returns-else-least-spots c =
    are_first c.args.spots.now c.rising_front-rising.result c.loop-count.count c.least_from-least.result _ c.rising_front-rising.ensures.within c.rising_front-rising.ensures.rises c.least_from-least.ensures c.loop-count.invariant
    c.loop-count-test.true c.if-least-spots.false
