use Rattle.std.proofs.Common.{length}
use Rattle.time_merge.proofs.Choosing.{all_of_map}
use Rattle.multi_report.specs.Sources.{HasRoom, IsPrepared, seen}
use Rattle.multi_report.proofs.TakenItems.{taken_from}
use Rattle.multi_report.proofs.taking.take_from.Goals as goal

pub take_next-requires-clause-prepared : goal.take_next-requires-clause-prepared
take_next-requires-clause-prepared g c κs live = all_of_map IsPrepared (seen g.F.File g.L.LineFormat.text) c.args.sources.now c.requires.prepared c.args.j c.index-sources-j.result c.requires.inside

pub take_next-requires-clause-room : goal.take_next-requires-clause-room
take_next-requires-clause-room g c κs live = all_of_map (HasRoom (length c.args.buffer.now)) (seen g.F.File g.L.LineFormat.text) c.args.sources.now c.requires.room c.args.j c.index-sources-j.result c.requires.inside

pub returns-clause-taken : goal.returns-clause-taken
returns-clause-taken g c = taken_from (seen g.F.File g.L.LineFormat.text) c.args.sources.now c.args.j c.index-sources-j.result c.take_next.new.source _ _ c.take_next.result c.requires.inside c.take_next.ensures.taken
