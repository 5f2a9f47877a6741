use Rattle.std.proofs.Common.{map}
use Rattle.trace_args.specs.Command.{report_view}
use Rattle.several_report.specs.OpenInput.{source_seen}
use Rattle.several_report.proofs.OpenInputs.{opened_next, unopened_shown}
use Rattle.several_report.proofs.sources.open_next.Goals as goal

pub returns-in-Ok-clause-next : goal.returns-in-Ok-clause-next
returns-in-Ok-clause-next g c = λ before names opened.
    opened_next (source_seen g.F.In.File) (report_view c.args.words.now) names c.args.name.now c.args.sources.now.items c.push_reserved.new.self.items c.in-Ok.source before _ _ opened c.push_reserved.ensures.items c.in-Ok.ensures.opened

pub returns-in-Err-clause-next : goal.returns-in-Err-clause-next
returns-in-Err-clause-next g c = λ before names opened rest out are.
    unopened_shown (report_view c.args.words.now) names c.args.name.now (map (source_seen g.F.In.File) c.args.sources.now.items) rest before _ _ out are opened c.in-Err.status c.in-Err.ensures.unopened
