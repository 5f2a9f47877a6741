use Rattle.wakeup_pairs.proofs.Extremes.{longest_is, shortest_is}
use Rattle.wakeup_pairs.proofs.laws.extremes.Goals as goal

pub returns-clause-longest : goal.returns-clause-longest
returns-clause-longest c = longest_is

pub returns-clause-shortest : goal.returns-clause-shortest
returns-clause-shortest c = shortest_is
