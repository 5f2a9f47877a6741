use Rattle.multi_report.proofs.OneSource.{stepped_lane}
use Rattle.multi_report.proofs.source.use_item.Goals as goal

pub returns : goal.returns
returns g c =
    let s = c.args.source.now in
    let r = c.step in
    stepped_lane s.name.now s.cpus (g.L.LineFormat.text s.form) s.lanes.layout r.new.self.layout _ _ _ _ s.lanes.all r.new.self.all c.args.i s.lanes.readiness r.new.self.readiness r.ensures.layout c.requires.inside r.ensures.stepped
