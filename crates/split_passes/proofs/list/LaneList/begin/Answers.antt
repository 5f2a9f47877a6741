use Rattle.std.proofs.Common.{arith, subst, sym, ◌∙◌}
use Rattle.std.specs.Result.{OnOk}
use Rattle.std.specs.List.{All}
use Rattle.subpage.specs.Arrangement.{CpusRise}
use Rattle.time_merge.specs.LaneRows.{HasLayout}
use Rattle.time_merge.specs.Loading.{LoadsLanes}
use Rattle.time_merge.proofs.Advancing.{same_length}
use Rattle.split_passes.specs.Begun.{IsBegun}
use Rattle.split_passes.specs.ListSeen.{ListSeen}
use Rattle.split_passes.proofs.Lent.{on_ok_all}
use Rattle.split_passes.proofs.list.LaneList.begin.Goals as goal

pub invariant_of-self : goal.invariant_of-self
invariant_of-self g c =
    let made = c.begin_in.ensures in
    let same = sym (same_length c.begin_in.new.pool c.self.inside.pool made.loads.parts) in
    record {
      layouts = λ i d lt. (made.loads.advance i d (omega (arith, same, lt))).layout ∙ c.self.invariant.layouts i d (omega (arith, same, lt));
      rise = subst CpusRise (sym made.loads.parts) c.self.invariant.rise;
      slots = c.self.invariant.slots ∙ same;
      fronts_long = made.fronts_long;
      tallies_long = made.tallies_long;
    }

pub returns-clause-loads : goal.returns-clause-loads
returns-clause-loads g c =
    subst (λ (v : ListSeen). LoadsLanes g.F.File c.args.file.now c.begin_in.new.file v.all c.begin_in.new.pool) c.self.view_is c.begin_in.ensures.loads

pub returns-clause-begun : goal.returns-clause-begun
returns-clause-begun g c =
    subst (λ (v : ListSeen). OnOk c.begin_in.result (IsBegun (record { layout = c.self.inside.layout; all = c.begin_in.new.pool; fronts = c.begin_in.new.fronts.items; tallies = c.begin_in.new.tallies.items })))
    c.self.view_is
    (on_ok_all c.begin_in.result (λ ready noted none. record { ready = ready; noted = noted; none = none }) c.begin_in.ensures.ready c.begin_in.ensures.noted c.begin_in.ensures.none)

pub returns-clause-layouts : goal.returns-clause-layouts
returns-clause-layouts g c = subst (λ (v : ListSeen). All (HasLayout v.layout) v.all) c.self.view_is c.self.invariant.layouts
