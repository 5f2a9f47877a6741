use Rattle.std.proofs.Common.{◌≡◌, ◌<◌, length, ap, subst, sym, ◌∙◌}
use Rattle.page_pool.specs.declared.cursor.LaneState.TheVariants.{Held}
use Rattle.page_pool.specs.declared.lane.Lane.{Lane}
use Rattle.std.specs.Prelude.{slice_index_or}
use Rattle.event_cursor.specs.Standing.{held_left}
use Rattle.time_merge.specs.LaneSteps.{IsLaneStep}
use Rattle.time_merge.specs.LanesSeen.{LanesSeen}
use Rattle.time_merge.proofs.Going.{still_parts}
use Rattle.time_merge.proofs.LanesKept.{all_known, known_set, layouts_set, rise_set, slots_set}
use Rattle.time_merge.proofs.lanes.Lanes.step.Goals as goal

pub step_in-requires-clause-inside : goal.step_in-requires-clause-inside
step_in-requires-clause-inside c = subst (λ (v : LanesSeen). c.args.i < length v.all) (sym c.self.view_is) c.requires.inside

pub step_in-requires-clause-held : goal.step_in-requires-clause-held
step_in-requires-clause-held c =
    subst (λ (v : LanesSeen). (d : Lane) → ((slice_index_or v.all c.args.i d).cursor.state ≡ Held) × (0 < length (held_left (slice_index_or v.all c.args.i d)))) (sym c.self.view_is) c.requires.held

pub invariant_of-self : goal.invariant_of-self
invariant_of-self c =
    let a = c.self.inside in
    let v = c.self.invariant in
    let lt : c.args.i < length a.pool = subst (λ (v : LanesSeen). c.args.i < length v.all) (sym c.self.view_is) c.requires.inside in
    let known = all_known a.pool a.nexts a.readiness (ap (λ (v : LanesSeen). v.readiness) c.self.view_is ∙ c.requires.ready) v.known in
    let now = c.step_in.new.pool in
    let s = c.step_in.ensures.stepped in
    record {
      layouts = layouts_set a.pool c.args.i s.lane now s.set lt a.layout (s.stepped s.lane).page.layout v.layouts;
      rise = rise_set a.pool c.args.i s.lane now s.set (still_parts a.pool c.args.i s.lane s.lane lt (s.stepped s.lane)) v.rise;
      slots = slots_set a.pool c.args.i s.lane now s.set a.nexts v.slots;
      known = known_set a.pool c.args.i s.lane now s.set a.nexts lt known;
    }

pub returns-clause-stepped : goal.returns-clause-stepped
returns-clause-stepped c = subst (λ (v : LanesSeen). IsLaneStep v.all c.args.i c.step_in.new.pool) c.self.view_is c.step_in.ensures.stepped
