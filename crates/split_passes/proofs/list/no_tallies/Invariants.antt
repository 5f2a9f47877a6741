use Rattle.std.proofs.Common.{◌≡◌, length}
use Rattle.split_passes.proofs.list.no_tallies.Given as goal

abbrev pub invariant-loop : goal.invariant-loop
invariant-loop l = length l.tallies.items ≡ l.counter
