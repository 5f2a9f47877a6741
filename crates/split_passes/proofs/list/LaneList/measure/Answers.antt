use Rattle.std.proofs.Common.{arith, [], subst, sym, ◌∙◌}
use Rattle.std.specs.Option.{IfSome}
use Rattle.std.specs.Result.{IfOk, OnOk}
use Rattle.std.specs.List.{All}
use Rattle.subpage.specs.Arrangement.{CpusRise}
use Rattle.event_cursor.specs.Standing.{Stands}
use Rattle.time_merge.specs.LaneRows.{IsReady}
use Rattle.time_merge.proofs.Advancing.{same_length}
use Rattle.split_passes.specs.ListSeen.{ListSeen}
use Rattle.split_passes.specs.Measures.{IsMeasured, SkipsOver, Tallied}
use Rattle.split_passes.specs.Through.{GoThrough}
use Rattle.split_passes.proofs.list.LaneList.measure.Goals as goal

pub invariant_of-self : goal.invariant_of-self
invariant_of-self g c =
    let made = c.measure_in.ensures in
    let same = sym (same_length c.measure_in.new.pool c.self.inside.pool made.through.parts) in
    record {
      layouts = λ i d lt. (made.through.advance i d (omega (arith, same, lt))).layout ∙ c.self.invariant.layouts i d (omega (arith, same, lt));
      rise = subst CpusRise (sym made.through.parts) c.self.invariant.rise;
      slots = made.slots ∙ c.self.invariant.slots ∙ same;
      fronts_long = c.self.invariant.fronts_long ∙ same;
      tallies_long = made.long;
    }

pub returns-clause-through : goal.returns-clause-through
returns-clause-through g c =
    subst (λ (v : ListSeen). GoThrough g.F.File c.args.file.now c.measure_in.new.file v.all c.measure_in.new.pool) c.self.view_is c.measure_in.ensures.through

pub returns-clause-measured : goal.returns-clause-measured
returns-clause-measured g c =
    subst (λ (v : ListSeen). IfOk c.measure_in.result (λ end. IfSome (g.F.File.bytes c.args.file.now) (λ file. All (Stands file) v.all → Tallied v.all [] v.tallies
    → IsMeasured file c.args.stop (record { gauge = c.args.gauge.now; lanes = v.all }) (record { gauge = c.measure_in.new.gauge; lanes = c.measure_in.new.pool }) c.measure_in.new.tallies.items end)))
    c.self.view_is c.measure_in.ensures.measured

pub returns-clause-ready : goal.returns-clause-ready
returns-clause-ready g c = subst (λ (v : ListSeen). OnOk c.measure_in.result (All IsReady c.measure_in.new.pool)) c.self.view_is c.measure_in.ensures.ready

pub returns-clause-over : goal.returns-clause-over
returns-clause-over g c = subst (λ (v : ListSeen). SkipsOver v.all v.tallies c.measure_in.new.tallies.items) c.self.view_is c.measure_in.ensures.over
