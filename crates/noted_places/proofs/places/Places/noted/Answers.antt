use Rattle.std.proofs.Common.{arith}
use Rattle.noted_places.proofs.NotedLemmas.{none_noted, one_noted, enough_stays, all_noted}
use Rattle.noted_places.proofs.places.Places.noted.Goals as goal

pub loop-place-init : goal.loop-place-init
loop-place-init c = record {
  so_far = none_noted c.in_ok-places.places c.args.numbers.now c.in_ok-places.ensures.places;
  enough = c.in_ok-places.ensures.room;
}

pub loop-place-preserved : goal.loop-place-preserved
loop-place-preserved c =
    let l = c.loop-place in
    record {
      so_far = one_noted l.places c.note.new.self c.args.numbers.now l.place (omega (arith, c.loop-place-test.true)) c.note.ensures l.invariant.so_far;
      enough = enough_stays l.places c.note.new.self c.args.numbers.now _ l.place c.note.ensures l.invariant.enough;
    }

pub returns-clause-places : goal.returns-clause-places
returns-clause-places c = all_noted c.loop-place.places c.args.numbers.now c.loop-place.place (omega (arith, c.loop-place-test.false)) c.loop-place.invariant.so_far

pub returns-clause-room : goal.returns-clause-room
returns-clause-room c = c.loop-place.invariant.enough
