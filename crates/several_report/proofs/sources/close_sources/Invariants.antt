use Rattle.std.proofs.Common.{◌≡◌, ◌++◌, List, map, length}
use Rattle.multi_report.specs.declared.source.Source.{Source}
use Rattle.trace_outside.specs.Open.{ClosesMany}
use Rattle.report_context.specs.declared.lines.ItemLines.{ItemLines}
use Rattle.several_report.specs.OpenInput.{file_in, source_seen}
use Rattle.several_report.proofs.sources.close_sources.Given as goal

abbrev pub invariant-loop-source : goal.invariant-loop-source
invariant-loop-source g l = record {
  closed : (tail : List (Source g.row.F-In.Denot ItemLines)) × ((l.fn.sources.items ≡ l.sources.items ++ tail)
      × ClosesMany (map file_in (map (source_seen g.F.In.File) tail)) (g.F.Folder.counts l.fn.folder) (g.F.Folder.counts l.folder));
  files : g.F.Folder.files l.folder ≡ g.F.Folder.files l.fn.folder;
  requested : g.F.Folder.requested l.folder ≡ g.F.Folder.requested l.fn.folder;
}

abbrev pub decreases-loop-source : goal.decreases-loop-source
decreases-loop-source g l = length l.sources.items
