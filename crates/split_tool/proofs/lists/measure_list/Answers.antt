use Rattle.event_cursor.proofs.Told.{told_map}
use Rattle.split_passes.proofs.Passing.{ready_done}
use Rattle.split_tool.proofs.Measuring.{list_measured}
use Rattle.split_tool.proofs.lists.measure_list.Goals as goal

pub returns-clause-told : goal.returns-clause-told
returns-clause-told g c =
    let list = c.args.list.now in
    let now = c.measure.new.self in
    told_map _ _ (g.F.File.bytes c.args.file.now) (λ file m s t.
    list_measured file c.args.rules.now c.new-gauge.result c.measure.new.gauge list.all now.all now.tallies c.args.before c.and.result c.in_ok-end.end c.is_closed-closed.result
    c.new-gauge.ensures.piece c.new-gauge.ensures.closes c.measure.ensures.through.parts c.is_closed-closed.ensures c.and.ensures.more c.and.ensures.bad (m s t))
    c.in_ok-end.ensures.measured

pub returns-clause-reads_done : goal.returns-clause-reads_done
returns-clause-reads_done g c =
    ready_done (g.F.File.size c.args.file.now) c.measure.new.self.all _ _ _ c.in_ok-end.ensures.ready c.measure.ensures.through.reads
