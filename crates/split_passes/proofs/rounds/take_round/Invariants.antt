use Rattle.split_passes.proofs.RoundTaking.{RoundTo}
use Rattle.split_passes.proofs.rounds.take_round.Given as goal

abbrev pub invariant-loop-i : goal.invariant-loop-i
invariant-loop-i l = record {
  taken : RoundTo l.reach.until l.reach.most l.i l.fn.lanes l.lanes l.fn.tallies l.tallies l.count;
}
