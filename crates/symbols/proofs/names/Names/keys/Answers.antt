use Rattle.std.proofs.Common.{arith, ap, length}
use Rattle.symbols.proofs.RowLemmas.{all_keys}
use Rattle.symbols.proofs.names.Names.keys.Goals as goal

pub returns : goal.returns
returns c = all_keys c.args.self.now c.loop-spot.spot-index c.loop-spot.keys.items (omega (arith, c.loop-spot-test.false, ap length c.deref-spot-items.ensures.value)) c.loop-spot.invariant
