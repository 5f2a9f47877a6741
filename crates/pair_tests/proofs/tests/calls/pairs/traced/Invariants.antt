use Rattle.call_pairs.specs.Tracings.{WasSeen}
use Rattle.pair_tests.proofs.tests.calls.pairs.traced.Given as goal

abbrev pub invariant-loop-word : goal.invariant-loop-word
invariant-loop-word l = WasSeen l.tracing
