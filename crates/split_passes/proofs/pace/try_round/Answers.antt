use Rattle.split_passes.proofs.pace.try_round.Goals as goal

pub returns-in-Some : goal.returns-in-Some
returns-in-Some c = record {
  taken = c.in-Some.ensures.taken.0;
}
