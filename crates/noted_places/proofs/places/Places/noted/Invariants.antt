use Rattle.noted_places.proofs.NotedLemmas.{AreNoted, AreEnough}
use Rattle.noted_places.proofs.places.Places.noted.Given as goal

abbrev pub invariant-loop-place : goal.invariant-loop-place
invariant-loop-place l = record {
  so_far : AreNoted l.places l.numbers l.place;
  enough : AreEnough l.places l.numbers;
}
