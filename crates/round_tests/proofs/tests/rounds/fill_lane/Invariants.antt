use Rattle.std.proofs.Common.{◌≡◌}
use Rattle.round_print.specs.Prints.{KeysRise, KeysUpTo}
use Rattle.round_tests.proofs.tests.rounds.fill_lane.Given as goal

abbrev pub invariant-loop-line : goal.invariant-loop-line
invariant-loop-line l = record {
  rises : KeysRise l.lane;
  up_to : KeysUpTo l.last l.lane;
  cpu : l.lane.cpu ≡ l.cpu;
}
