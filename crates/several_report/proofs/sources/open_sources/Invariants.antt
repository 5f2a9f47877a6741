use Rattle.std.proofs.Common.{◌≡◌, length, map, take, vec_capacity}
use Rattle.trace_args.specs.Command.{report_view}
use Rattle.several_report.specs.Inputs.{names_in}
use Rattle.run_endings.specs.Outside.{folder_seen}
use Rattle.several_report.specs.OpenInput.{source_seen}
use Rattle.several_report.specs.Opened.{AreOpened}
use Rattle.several_report.proofs.sources.open_sources.Given as goal

abbrev pub invariant-loop-place : goal.invariant-loop-place
invariant-loop-place g l = record {
  room : vec_capacity l.sources ≡ vec_capacity l.fn.sources;
  count : length l.sources.items ≡ l.place;
  opened : AreOpened (report_view l.words) (take l.place (names_in (report_view l.words))) (map (source_seen g.F.In.File) l.sources.items)
      (folder_seen g.F.Folder l.fn.folder) (folder_seen g.F.Folder l.folder);
}
