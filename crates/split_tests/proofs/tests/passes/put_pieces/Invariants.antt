use Rattle.std.proofs.Common.{◌≡◌, length}
use Rattle.split_tests.proofs.tests.passes.put_pieces.Given as goal

abbrev pub invariant-loop : goal.invariant-loop
invariant-loop g l = record {
  same : l.list.layout ≡ l.layout;
  two : length l.list.all ≡ 2;
}
