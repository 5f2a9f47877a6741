use Rattle.std.proofs.Common.{◌≡◌, ◌<◌, length, ap, subst, sym, ◌∙◌}
use Rattle.page_pool.specs.declared.cursor.LaneState.TheVariants.{Held}
use Rattle.page_pool.specs.declared.lane.Lane.{Lane}
use Rattle.std.specs.Prelude.{slice_index_or}
use Rattle.event_cursor.specs.Standing.{held_left}
use Rattle.time_merge.specs.LanesSeen.{LanesSeen}
use Rattle.time_merge.specs.Skipping.{IsLaneUsedUp}
use Rattle.time_merge.proofs.LanesKept.{all_known, known_set, layouts_set, rise_set, slots_set}
use Rattle.time_merge.proofs.Skips.{used_parts}
use Rattle.time_merge.proofs.lanes.Lanes.use_up.Goals as goal

pub use_up_in-requires-clause-inside : goal.use_up_in-requires-clause-inside
use_up_in-requires-clause-inside g c = subst (λ (v : LanesSeen). c.args.i < length v.all) (sym c.self.view_is) c.requires.inside

pub use_up_in-requires-clause-held : goal.use_up_in-requires-clause-held
use_up_in-requires-clause-held g c =
    subst (λ (v : LanesSeen). (d : Lane) → ((slice_index_or v.all c.args.i d).cursor.state ≡ Held) × (0 < length (held_left (slice_index_or v.all c.args.i d)))) (sym c.self.view_is) c.requires.held

pub invariant_of-self : goal.invariant_of-self
invariant_of-self g c =
    let a = c.self.inside in
    let v = c.self.invariant in
    let lt : c.args.i < length a.pool = subst (λ (v : LanesSeen). c.args.i < length v.all) (sym c.self.view_is) c.requires.inside in
    let known = all_known a.pool a.nexts a.readiness (ap (λ (v : LanesSeen). v.readiness) c.self.view_is ∙ c.requires.ready) v.known in
    let now = c.use_up_in.new.pool in
    let s = c.use_up_in.ensures.used in
    record {
      layouts = layouts_set a.pool c.args.i s.lane now s.set lt a.layout ((s.used s.lane).skipped.layout ∙ (s.used s.lane).stepped.page.layout) v.layouts;
      rise = rise_set a.pool c.args.i s.lane now s.set (used_parts (g.O.Others.matters c.args.others.now) a.pool c.args.i s.lane s.lane lt (s.used s.lane)) v.rise;
      slots = slots_set a.pool c.args.i s.lane now s.set a.nexts v.slots;
      known = known_set a.pool c.args.i s.lane now s.set a.nexts lt known;
    }

pub returns-clause-used : goal.returns-clause-used
returns-clause-used g c = subst (λ (v : LanesSeen). IsLaneUsedUp (g.O.Others.matters c.args.others.now) v.all c.args.i c.use_up_in.new.pool) c.self.view_is c.use_up_in.ensures.used
