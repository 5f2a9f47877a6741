use Rattle.std.proofs.Common.{subst}
use Rattle.std.specs.List.{All}
use Rattle.trace_base.specs.declared.layout.Layout.{Layout}
use Rattle.time_merge.specs.LaneRows.{HasLayout}
use Rattle.multi_report.proofs.OneSource.{keeps_made, readied_made}
use Rattle.multi_report.proofs.OwnLayouts.{own_before}
use Rattle.multi_report.proofs.source.make_source_ready.Goals as goal

pub returns-in_err-make_ready-clause-keeps : goal.returns-in_err-make_ready-clause-keeps
returns-in_err-make_ready-clause-keeps g c =
    let s = c.args.source.now in
    let r = c.make_ready in
    keeps_made s.name.now s.cpus (g.L.LineFormat.text s.form) g.F.File s.lanes.layout r.new.self.layout s.file r.new.file s.lanes.all r.new.self.all s.lanes.readiness r.new.self.readiness r.ensures.layout r.ensures.loads

pub returns-clause-keeps : goal.returns-clause-keeps
returns-clause-keeps g c =
    let s = c.args.source.now in
    let r = c.make_ready in
    keeps_made s.name.now s.cpus (g.L.LineFormat.text s.form) g.F.File s.lanes.layout r.new.self.layout s.file r.new.file s.lanes.all r.new.self.all s.lanes.readiness r.new.self.readiness r.ensures.layout r.ensures.loads

pub returns-clause-readied : goal.returns-clause-readied
returns-clause-readied g c =
    let s = c.args.source.now in
    let r = c.make_ready in
    let ok = c.in_ok-make_ready.ensures in
    readied_made s.name.now s.cpus (g.L.LineFormat.text s.form) g.F.File s.lanes.layout r.new.self.layout s.file r.new.file s.lanes.all r.new.self.all s.lanes.readiness r.new.self.readiness r.ensures.layout r.ensures.loads
    ok.readiness ok.ready

pub returns-clause-layouts : goal.returns-clause-layouts
returns-clause-layouts g c =
    let s = c.args.source.now in
    let r = c.make_ready in
    own_before g.F.File s.lanes.layout s.file r.new.file s.lanes.all r.new.self.all r.ensures.loads
    (subst (λ (l : Layout). All (HasLayout l) r.new.self.all) r.ensures.layout c.key_of_next.ensures.layouts)
