use Rattle.std.proofs.Common.{ℕ, Option, subst, ◌∙◌}
use Rattle.time_merge.specs.LaneRows.{next_of}
use Rattle.time_merge.specs.Nexts.{IsInStep}
use Rattle.time_merge.proofs.Advancing.{same_length}
use Rattle.time_merge.proofs.OneLane.{in_step_one}
use Rattle.time_merge.proofs.in_step.make_ready_by.Goals as goal

pub returns-in_ok-make_one_ready-in-Some-clause-nexts : goal.returns-in_ok-make_one_ready-in-Some-clause-nexts
returns-in_ok-make_one_ready-in-Some-clause-nexts g c =
    let but = subst (λ (used : Option ℕ). IsInStep c.args.lanes.now c.args.nexts.now used) c.in-Some.is c.requires.in_step in
    c.set.ensures ∙ in_step_one next_of c.args.lanes.now c.make_one_ready.new.lanes c.args.nexts.now c.in-Some.used c.index-lanes-used.result c.next_of.result
    c.requires.slots (same_length c.make_one_ready.new.lanes c.args.lanes.now c.make_one_ready.ensures.loads.parts) but.inside c.make_one_ready.ensures.others but.keys_are c.next_of.ensures
