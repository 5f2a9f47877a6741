use Rattle.std.proofs.Common.{arith, ◌-◌, ◌≤◌, subst, sym, ◌∙◌}
use Rattle.std.specs.Option.{IfSome}
use Rattle.std.specs.Result.{OnOk}
use Rattle.std.specs.List.{All}
use Rattle.trace_outside.specs.Causes.{raised}
use Rattle.subpage.specs.Arrangement.{CpusRise}
use Rattle.event_cursor.specs.Standing.{Stands}
use Rattle.time_merge.specs.LaneRows.{HasLayout}
use Rattle.time_merge.specs.Reads.{all_unread}
use Rattle.time_merge.proofs.Advancing.{same_length}
use Rattle.split_passes.specs.ListSeen.{ListSeen}
use Rattle.split_passes.specs.Starting.{ListStarted}
use Rattle.split_passes.specs.Through.{GoThrough}
use Rattle.split_passes.proofs.list.LaneList.pass_over.Goals as goal

pub invariant_of-self : goal.invariant_of-self
invariant_of-self g c =
    let made = c.pass_in.ensures in
    let same = sym (same_length c.pass_in.new.pool c.self.inside.pool made.through.parts) in
    record {
      layouts = λ i d lt. (made.through.advance i d (omega (arith, same, lt))).layout ∙ c.self.invariant.layouts i d (omega (arith, same, lt));
      rise = subst CpusRise (sym made.through.parts) c.self.invariant.rise;
      slots = made.slots ∙ c.self.invariant.slots ∙ same;
      fronts_long = c.self.invariant.fronts_long ∙ same;
      tallies_long = c.self.invariant.tallies_long ∙ same;
    }

pub returns-clause-through : goal.returns-clause-through
returns-clause-through g c =
    subst (λ (v : ListSeen). GoThrough g.F.File c.args.file.now c.pass_in.new.file v.all c.pass_in.new.pool) c.self.view_is c.pass_in.ensures.through

pub returns-clause-told : goal.returns-clause-told
returns-clause-told g c =
    subst (λ (v : ListSeen). OnOk c.pass_in.result (IfSome (g.F.File.bytes c.args.file.now) (λ file. All (Stands file) v.all → ListStarted file c.args.start v.all c.pass_in.new.pool)))
    c.self.view_is c.pass_in.ensures.told

pub returns-clause-reads_done : goal.returns-clause-reads_done
returns-clause-reads_done g c =
    let len = g.F.File.size c.args.file.now in
    subst (λ (v : ListSeen). OnOk c.pass_in.result (g.F.File.reads c.pass_in.new.file ≤ raised (g.F.File.reads c.args.file.now) (all_unread len v.all - all_unread len c.pass_in.new.pool)))
    c.self.view_is c.pass_in.ensures.reads_done

pub returns-clause-layouts : goal.returns-clause-layouts
returns-clause-layouts g c = subst (λ (v : ListSeen). All (HasLayout v.layout) v.all) c.self.view_is c.self.invariant.layouts
