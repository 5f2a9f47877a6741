use Rattle.std.proofs.Common.{arith}
use Rattle.pair_tests.proofs.tests.calls.traces.gathered.Goals as goal

pub gather_calls-requires-clause-rise : goal.gather_calls-requires-clause-rise
gather_calls-requires-clause-rise g c = (omega arith, tt)
