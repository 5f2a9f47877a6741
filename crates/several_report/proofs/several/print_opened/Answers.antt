use Rattle.std.proofs.Common.{◌≡◌, List, length, map, ap, subst, sym, arith}
use Rattle.std.specs.List.{All}
use Rattle.std.proofs.lemmas.List.{length-map, take_at}
use Rattle.multi_report.specs.declared.source.Source.{Source}
use Rattle.multi_report.specs.Sources.{IsFreshSource}
use Rattle.trace_args.specs.Command.{report_view}
use Rattle.report_context.specs.declared.lines.ItemLines.{ItemLines}
use Rattle.several_report.specs.Inputs.{names_in}
use Rattle.run_endings.specs.Outside.{beside, folder_seen, sink_seen}
use Rattle.several_report.specs.OpenInput.{file_in, source_seen}
use Rattle.several_report.specs.Opened.{AreOpened}
use Rattle.several_report.specs.Reported.{FilesReported}
use Rattle.several_report.proofs.several.print_opened.Goals as goal

pub print_sources-requires-clause-few : goal.print_sources-requires-clause-few
print_sources-requires-clause-few g c =
    omega (
      arith,
      ap length c.as_mut_slice.ensures.value,
      length-map c.open_sources.new.sources.items (source_seen g.F.In.File),
      c.in-Ok.ensures.count,
      length-map c.args.words.now.more.items (λ name. name.now),
      c.requires.few,
    )

pub print_sources-requires-clause-fresh : goal.print_sources-requires-clause-fresh
print_sources-requires-clause-fresh g c =
    subst (λ (xs : List (Source g.row.F-In.Denot ItemLines)). All IsFreshSource (map (source_seen g.F.In.File) xs)) (sym c.as_mut_slice.ensures.value) c.in-Ok.ensures.fresh

pub returns-in-Ok : goal.returns-in-Ok
returns-in-Ok g c =
    let f = source_seen g.F.In.File in
    let words = report_view c.args.words.now in
    let now = c.print_sources.new.sources in
    let before = folder_seen g.F.Folder c.args.folder.now in
    let mid = folder_seen g.F.Folder c.open_sources.new.folder in
    let out = sink_seen g.O.Sink c.args.out.now in
    let out_now = sink_seen g.O.Sink c.print_sources.new.out in
    let long : length now ≡ c.open_sources.new.sources.len = omega (arith, c.as_mut_slice.ensures.len, c.print_sources.auto.sources) in
    subst (λ (xs : List (Source g.row.F-In.Denot ItemLines)). FilesReported words (map file_in (map f xs)) c.print_sources.result.status c.print_sources.result.file.now (beside before out) (beside mid out_now))
    (sym (take_at now _ c.open_sources.new.sources.len long))
    (c.print_sources.ensures before mid
    (subst (λ (xs : List (Source g.row.F-In.Denot ItemLines)). AreOpened words (names_in words) (map f xs) before mid) (sym c.as_mut_slice.ensures.value) c.in-Ok.ensures))

pub returns-in-Err : goal.returns-in-Err
returns-in-Err g c = c.in-Err.ensures (sink_seen g.O.Sink c.args.out.now)
