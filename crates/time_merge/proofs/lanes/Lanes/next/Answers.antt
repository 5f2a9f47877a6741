use Rattle.std.proofs.Common.{List, length, map, ap, subst, sym, ◌∙◌}
use Rattle.std.specs.List.{All}
use Rattle.subpage.specs.Arrangement.{CpusRise}
use Rattle.page_pool.specs.declared.lane.Lane.{Lane}
use Rattle.event_cursor.specs.Standing.{Stands}
use Rattle.time_merge.specs.LaneNexts.{HoldsLaneNext, IsLaneNext}
use Rattle.time_merge.specs.LaneRows.{IsReady, next_of, parts_of}
use Rattle.time_merge.specs.LanesSeen.{LanesSeen}
use Rattle.time_merge.proofs.LanesKept.{all_known}
use Rattle.time_merge.proofs.lanes.Lanes.next.Goals as goal

pub lane_next-requires : goal.lane_next-requires
lane_next-requires c =
    let a = c.self.inside in
    let v = c.self.invariant in
    let known = all_known a.pool a.nexts a.readiness (ap (λ (v : LanesSeen). v.readiness) c.self.view_is ∙ c.requires) v.known in
    let same = sym c.all.ensures in
    record {
      rise = subst (λ (lanes : List Lane). CpusRise (parts_of lanes)) same v.rise;
      slots = v.slots ∙ ap length same;
      ready = subst (λ (lanes : List Lane). All IsReady lanes) same known.ready;
      nexts = known.keys_are ∙ ap (map next_of) same;
    }

pub returns : goal.returns
returns c =
    let n = c.lane_next.result in
    let a = c.self.inside in
    record {
      holds = subst (λ (v : LanesSeen). HoldsLaneNext v.all n) c.self.view_is (subst (λ (lanes : List Lane). HoldsLaneNext lanes n) c.all.ensures c.lane_next.ensures.holds);
      next = λ file.
          subst (λ (v : LanesSeen). All (Stands file) v.all → IsLaneNext file v.all n) c.self.view_is
          (subst (λ (lanes : List Lane). All (Stands file) lanes → IsLaneNext file lanes n) c.all.ensures (c.lane_next.ensures.next file));
    }
