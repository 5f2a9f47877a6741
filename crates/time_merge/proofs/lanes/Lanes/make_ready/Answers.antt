use Rattle.std.proofs.Common.{ℕ, List, subst, sym, ◌∙◌}
use Rattle.std.specs.List.{All}
use Rattle.trace_base.specs.declared.part.Part.{Part}
use Rattle.subpage.specs.Arrangement.{CpusRise}
use Rattle.time_merge.specs.LaneRows.{IsReady}
use Rattle.time_merge.specs.LanesSeen.{LanesSeen}
use Rattle.time_merge.specs.Loading.{LoadsLanes}
use Rattle.time_merge.proofs.Advancing.{same_length}
use Rattle.time_merge.proofs.lanes.Lanes.make_ready.Goals as goal

pub make_pool_ready-requires-clause-in_step : goal.make_pool_ready-requires-clause-in_step
make_pool_ready-requires-clause-in_step g c = c.used-used.ensures c.self.inside.pool c.self.inside.nexts c.self.invariant.known

pub invariant_of-self : goal.invariant_of-self
invariant_of-self g c =
    let made = c.make_pool_ready.ensures in
    record {
      layouts = made.loads.layouts c.self.inside.layout c.self.invariant.layouts;
      rise = subst (λ (ps : List (ℕ × Part)). CpusRise ps) (sym made.loads.parts) c.self.invariant.rise;
      slots = made.slots ∙ c.self.invariant.slots ∙ sym (same_length c.make_pool_ready.new.pool c.self.inside.pool made.loads.parts);
      known = tt;
    }

pub invariant_of-self-2 : goal.invariant_of-self-2
invariant_of-self-2 g c =
    let made = c.make_pool_ready.ensures in
    record {
      layouts = made.loads.layouts c.self.inside.layout c.self.invariant.layouts;
      rise = subst (λ (ps : List (ℕ × Part)). CpusRise ps) (sym made.loads.parts) c.self.invariant.rise;
      slots = made.slots ∙ c.self.invariant.slots ∙ sym (same_length c.make_pool_ready.new.pool c.self.inside.pool made.loads.parts);
      known = record { ready = c.in_ok-make_pool_ready.ensures.ready; keys_are = c.in_ok-make_pool_ready.ensures.nexts };
    }

pub returns-in_err-make_pool_ready-clause-loads : goal.returns-in_err-make_pool_ready-clause-loads
returns-in_err-make_pool_ready-clause-loads g c =
    subst (λ (v : LanesSeen). LoadsLanes g.F.File c.args.file.now c.make_pool_ready.new.file v.all c.make_pool_ready.new.pool) c.self.view_is c.make_pool_ready.ensures.loads

pub returns-clause-loads : goal.returns-clause-loads
returns-clause-loads g c =
    subst (λ (v : LanesSeen). LoadsLanes g.F.File c.args.file.now c.make_pool_ready.new.file v.all c.make_pool_ready.new.pool) c.self.view_is c.make_pool_ready.ensures.loads

pub returns-clause-ready : goal.returns-clause-ready
returns-clause-ready g c = subst (λ (v : LanesSeen). All IsReady c.make_pool_ready.new.pool) c.self.view_is c.in_ok-make_pool_ready.ensures.ready
