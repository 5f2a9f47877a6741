use Rattle.std.proofs.Common.{arith}
use Rattle.split_pieces.proofs.Allowing.{takes_all, takes_below, takes_events}
use Rattle.split_pieces.proofs.gauge.Gauge.allows.Goals as goal

pub returns-in-All : goal.returns-in-All
returns-in-All c = rw c.in-All.is (λ xs all few. takes_all xs)

pub returns-else-limit-eq0 : goal.returns-else-limit-eq0
returns-else-limit-eq0 c = rw c.in-Below.is (λ xs all few. takes_below c.in-Below.limit _ xs (omega arith) all)

pub returns-in-Events : goal.returns-in-Events
returns-in-Events c = rw c.in-Events.is (λ xs all few. takes_events c.in-Events.events 18446744073709551615 xs few all)
