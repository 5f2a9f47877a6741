use Rattle.std.proofs.Common.{◌≡◌, [], length, map}
use Rattle.round_print.specs.Prints.{head_kept}
use Rattle.round_print.specs.Rounds.{AreRising}
use Rattle.round_tests.proofs.tests.rounds.print_rounds.Given as goal

abbrev pub invariant-loop-horizon : goal.invariant-loop-horizon
invariant-loop-horizon g l = record {
  rising : AreRising l.lanes;
  heads : l.heads ≡ map head_kept l.lanes;
  marks : length l.moved ≡ length l.lanes;
  empty : l.pending ≡ [];
}
