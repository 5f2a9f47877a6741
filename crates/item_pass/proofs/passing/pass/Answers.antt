use Rattle.std.proofs.Common.{◌≡◌, ◌≤◌, ℕ, List, IfOk, IfSome, sum_by, subst, sym}
use Rattle.std.specs.List.{All, filter}
use Rattle.std.specs.Prelude.{OnOk}
use Rattle.trace_base.specs.declared.layout.Layout.{Layout}
use Rattle.trace_base.specs.declared.part.Part.{Part}
use Rattle.trace_outside.specs.Causes.{raised}
use Rattle.subpage.specs.Cut.{cut_of, reached_of}
use Rattle.time_merge.specs.LaneRows.{parts_of}
use Rattle.time_merge.specs.Skipping.{by_item}
use Rattle.time_merge.specs.Unused.{IsUnused}
use Rattle.item_pass.specs.Gathering.{cut_place}
use Rattle.item_pass.proofs.passing.pass.Goals as goal

pub pass_lanes-requires-clause-unused : goal.pass_lanes-requires-clause-unused
pass_lanes-requires-clause-unused g c = subst (λ (l : Layout). All (IsUnused l 0) c.in-Ok.lanes.all) (sym c.in-Ok.ensures.layout) c.in-Ok.ensures.unused

pub returns-clause-gathered : goal.returns-clause-gathered
returns-clause-gathered g c =
    let m = g.G.Others.matters c.args.gatherer.now in
    subst (λ (ps : List (ℕ × Part)). OnOk c.pass_lanes.result (IfSome (g.F.File.bytes c.args.file.now) (λ bytes. g.G.Gatherer.holds c.args.gatherer.now
    (filter (by_item m) (reached_of c.args.layout.now bytes ps)) c.pass_lanes.new.gathered))) c.in-Ok.ensures.parts
    (subst (λ (l : Layout). OnOk c.pass_lanes.result (IfSome (g.F.File.bytes c.args.file.now) (λ bytes. g.G.Gatherer.holds c.args.gatherer.now
    (filter (by_item m) (reached_of l bytes (parts_of c.in-Ok.lanes.all))) c.pass_lanes.new.gathered))) c.in-Ok.ensures.layout c.pass_lanes.ensures.gathered)

pub returns-clause-cut : goal.returns-clause-cut
returns-clause-cut g c =
    subst (λ (ps : List (ℕ × Part)). IfOk c.pass_lanes.result (λ cut. IfSome (g.F.File.bytes c.args.file.now) (λ bytes. cut ≡ cut_place (cut_of c.args.layout.now bytes ps)))) c.in-Ok.ensures.parts
    (subst (λ (l : Layout). IfOk c.pass_lanes.result (λ cut. IfSome (g.F.File.bytes c.args.file.now) (λ bytes. cut ≡ cut_place (cut_of l bytes (parts_of c.in-Ok.lanes.all))))) c.in-Ok.ensures.layout
    c.pass_lanes.ensures.cut)

pub returns-clause-reads : goal.returns-clause-reads
returns-clause-reads g c =
    subst (λ (ps : List (ℕ × Part)). g.F.File.reads c.pass_lanes.new.file ≤ raised (g.F.File.reads c.args.file.now) (sum_by (λ part. part.1.size) ps))
    c.in-Ok.ensures.parts c.pass_lanes.ensures.reads
