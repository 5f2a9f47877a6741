use Rattle.std.proofs.Common.{ℕ, get_or, sym, subst, arith}
use Rattle.split_passes.specs.Rounds.{ReachesPast}
use Rattle.split_passes.proofs.RoundTaking.{found_of, round_done, round_more, round_none}
use Rattle.split_passes.proofs.rounds.take_round.Goals as goal

pub loop-i-init : goal.loop-i-init
loop-i-init c = record {
  taken = round_none c.in-Some.reach.until c.in-Some.reach.most c.args.lanes.now c.args.tallies.now;
}

pub take_lane-count-requires : goal.take_lane-count-requires
take_lane-count-requires c = record {
  found =
      let lanes = c.loop-i.lanes in
      let i : ℕ = c.loop-i.i in
      let reach = c.in-Some.reach in
      found_of c.args.lanes.now i reach.lane c.index-lanes-i.result (get_or lanes i c.index-lanes-i.result) reach.run c.run_of-run.result c.run_of-run.ensures c.in-Some.ensures.run
      (c.loop-i.invariant.taken.rest i c.index-lanes-i.result (omega arith));
}

pub loop-i-preserved : goal.loop-i-preserved
loop-i-preserved c =
    let i : ℕ = c.loop-i.i in
    let reach = c.in-Some.reach in
    let r = c.loop-i.invariant.taken in
    let lt = c.loop-i-test.true in
    let reaches : ReachesPast reach.until reach.most (get_or c.loop-i.lanes i c.index-lanes-i.result) =
    subst (ReachesPast reach.until reach.most) (sym (r.rest i c.index-lanes-i.result (omega arith))) (c.in-Some.ensures.reaches i c.index-lanes-i.result (omega (arith, lt))) in
    let took = c.take_lane-count.ensures.taken reach.most reaches in
    record {
      taken = round_more reach.until reach.most i c.args.lanes.now c.loop-i.lanes c.args.tallies.now c.loop-i.tallies c.loop-i.count c.take_lane-count.result c.index-lanes-i.result c.take_lane-count.new.lane
          c.index-tallies-i.result c.take_lane-count.new.tally took.0 c.requires.long (omega (arith, lt)) took.1.1 r took.1.0;
    }

pub returns : goal.returns
returns c = record {
  taken =
      round_done c.args.stop c.args.gauge.now c.takes_events.new.self c.args.lanes.now c.loop-i.lanes c.args.tallies.now c.loop-i.tallies c.loop-i.i c.loop-i.count c.in-Some.reach
      (omega (arith, c.loop-i-test.false)) c.in-Some.ensures c.loop-i.invariant.taken c.takes_events.ensures;
}
