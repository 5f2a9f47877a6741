use Rattle.std.proofs.Common.{arith}
use Rattle.split_pieces.proofs.Cutting.{first_below}
use Rattle.split_pieces.proofs.gauge.Gauge.takes.Goals as goal

pub returns-else-nanos-eq0-clause-takes : goal.returns-else-nanos-eq0-clause-takes
returns-else-nanos-eq0-clause-takes c = λ taken x at event.
    rw c.in-Nanos.is (first_below c.in-Nanos.nanos c.args.key _ x (omega (arith, c.if-nanos-eq0.false)) at (omega (arith, c.from.ensures, c.from-in-Nanos.ensures)))
