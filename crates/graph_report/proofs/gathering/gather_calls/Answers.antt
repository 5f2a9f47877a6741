use Rattle.subpage.specs.Cut.{reached_of}
use Rattle.event_cursor.proofs.Told.{told_map}
use Rattle.graph_report.proofs.Taken.{calls_are}
use Rattle.graph_report.proofs.gathering.gather_calls.Goals as goal

pub returns-clause-list : goal.returns-clause-list
returns-clause-list g c =
    told_map _ _ (g.F.File.bytes c.args.file.now) (λ file has.
    calls_are c.args.context.now (reached_of c.args.layout.now file c.args.parts.now) c.pass.new.gathered c.into_calls.result.items c.into_calls.ensures has)
    c.in_ok-cut.ensures.gathered
