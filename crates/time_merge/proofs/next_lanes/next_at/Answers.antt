use Rattle.std.proofs.Common.{ℕ, Option, map, refl, sym, ap, subst, ◌∙◌}
use Rattle.page_pool.specs.declared.lane.Lane.{Lane}
use Rattle.time_merge.specs.LaneRows.{next_of}
use Rattle.time_merge.specs.Nexts.{IsLeastAt}
use Rattle.time_merge.proofs.Choosing.{none_next, cut_next_at, lane_next_at, holds_next}
use Rattle.time_merge.proofs.next_lanes.next_at.Goals as goal

pub returns-in-None-clause-next : goal.returns-in-None-clause-next
returns-in-None-clause-next c = λ bytes stands.
    none_next bytes c.args.lanes.now stands c.requires.ready (subst (λ (o : Option ℕ). IsLeastAt (map next_of c.args.lanes.now) o) c.in-None.is c.requires.least)

pub returns-then-is_malformed-clause-next : goal.returns-then-is_malformed-clause-next
returns-then-is_malformed-clause-next c = λ bytes stands.
    let least = subst (λ (o : Option ℕ). IsLeastAt (map next_of c.args.lanes.now) o) c.in-Some.is c.requires.least in
    cut_next_at bytes c.args.lanes.now c.in-Some.i least.0 c.index-lanes-i.result c.index-lanes-i-then-is_malformed.result c.index-lanes-i-then-is_malformed-2.result
    (c.requires.inside _ c.in-Some.is) (sym (ap (λ (a : Lane). a.cursor.state) c.index-lanes-i.is) ∙ c.if-is_malformed.ensures.yes refl) c.requires.rise stands c.requires.ready least.1

pub returns-else-is_malformed-clause-holds : goal.returns-else-is_malformed-clause-holds
returns-else-is_malformed-clause-holds c =
    let least = subst (λ (o : Option ℕ). IsLeastAt (map next_of c.args.lanes.now) o) c.in-Some.is c.requires.least in
    holds_next c.args.lanes.now c.in-Some.i least.0 c.index-lanes-i.result (c.requires.inside _ c.in-Some.is) (λ e. c.if-is_malformed.ensures.never refl (ap (λ (a : Lane). a.cursor.state) c.index-lanes-i.is ∙ e)) least.1

pub returns-else-is_malformed-clause-next : goal.returns-else-is_malformed-clause-next
returns-else-is_malformed-clause-next c = λ bytes stands.
    let least = subst (λ (o : Option ℕ). IsLeastAt (map next_of c.args.lanes.now) o) c.in-Some.is c.requires.least in
    lane_next_at bytes c.args.lanes.now c.in-Some.i least.0 c.index-lanes-i.result
    (c.requires.inside _ c.in-Some.is) (λ e. c.if-is_malformed.ensures.never refl (ap (λ (a : Lane). a.cursor.state) c.index-lanes-i.is ∙ e)) c.requires.rise stands c.requires.ready least.1
