use Rattle.std.proofs.Common.{◌<◌, List, length, Some, None, subst, arith}
use Rattle.tournament_tree.specs.declared.slot_key.SlotKey.{SlotKey}
use Rattle.time_merge.specs.Nexts.{IsLeastAt}
use Rattle.time_merge.proofs.Choosing.{holds_next, lane_next_at, none_next}
use Rattle.time_merge.proofs.LaneNexts.{cut_is_next, not_malformed}
use Rattle.time_merge.proofs.lane_nexts.lane_next.Goals as goal

pub returns-in_default-clause-next : goal.returns-in_default-clause-next
returns-in_default-clause-next c = λ file stands.
    none_next file c.args.lanes.now stands c.requires.ready (subst (λ (keys : List SlotKey). IsLeastAt keys None) c.requires.nexts c.in_default.ensures.least)

pub returns-in-Malformed-clause-next : goal.returns-in-Malformed-clause-next
returns-in-Malformed-clause-next c = λ file stands.
    let least = subst (λ (keys : List SlotKey). IsLeastAt keys (Some c.in-Some.i)) c.requires.nexts c.in-Some.ensures.least in
    cut_is_next file c.args.lanes.now c.in-Some.i least.0 _ (omega (arith, c.in-Some.ensures.inside, c.requires.slots)) c.in-Malformed.is c.requires.rise stands c.requires.ready least.1

pub returns-in-Fresh : goal.returns-in-Fresh
returns-in-Fresh c =
    let lanes = c.args.lanes.now in
    let inside : c.in-Some.i < length lanes = omega (arith, c.in-Some.ensures.inside, c.requires.slots) in
    let least = subst (λ (keys : List SlotKey). IsLeastAt keys (Some c.in-Some.i)) c.requires.nexts c.in-Some.ensures.least in
    record {
      holds = holds_next lanes c.in-Some.i least.0 _ inside (not_malformed _ c.in-Fresh.is) least.1;
      next = λ file stands. lane_next_at file lanes c.in-Some.i least.0 _ inside (not_malformed _ c.in-Fresh.is) c.requires.rise stands c.requires.ready least.1;
    }
