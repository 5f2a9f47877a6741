use Rattle.std.proofs.Common.{arith, ◌<◌, ◌+◌, ◌∙◌, List, ℕ, drop, length, map, refl, subst, take, ap}
use Rattle.std.proofs.lemmas.List.{length-map, take_all}
use Rattle.trace_args.specs.Command.{report_view}
use Rattle.several_report.specs.Inputs.{names_in}
use Rattle.run_endings.specs.Outside.{folder_seen}
use Rattle.several_report.specs.OpenInput.{source_seen}
use Rattle.several_report.specs.Opened.{AreOpened}
use Rattle.several_report.proofs.OpenInputs.{names_more, names_split, none_opened}
use Rattle.several_report.proofs.sources.open_sources.Goals as goal

pub loop-place-init : goal.loop-place-init
loop-place-init g c =
    let words = report_view c.args.words.now in
    let before = folder_seen g.F.Folder c.args.folder.now in
    record {
      room = refl;
      count = ap length c.requires.none;
      opened = rw c.requires.none (none_opened words before);
    }

pub loop-place-preserved : goal.loop-place-preserved
loop-place-preserved g c =
    let words = report_view c.args.words.now in
    let names = names_in words in
    let l = c.loop-place in
    let so_far = l.invariant in
    let before = folder_seen g.F.Folder c.args.folder.now in
    let now = folder_seen g.F.Folder c.open_next.new.folder in
    let lt : l.place < length names = omega (arith, length-map c.args.words.now.more.items (λ name. name.now)) in
    record {
      room = c.open_next.ensures.room ∙ so_far.room;
      count = omega (arith, so_far.count, c.in-Ok.ensures.count);
      opened = subst (λ (ns : List (List ℕ)). AreOpened words ns (map (source_seen g.F.In.File) c.open_next.new.sources.items) before now) (names_more names l.place c.input_at.result.now lt c.input_at.ensures.there)
          (c.in-Ok.ensures.next before (take l.place names) so_far.opened);
    }

pub returns-in-Err : goal.returns-in-Err
returns-in-Err g c =
    let names = names_in (report_view c.args.words.now) in
    let l = c.loop-place in
    let before = folder_seen g.F.Folder c.args.folder.now in
    let lt : l.place < length names = omega (arith, length-map c.args.words.now.more.items (λ name. name.now)) in
    λ out. c.in-Err.ensures.next before (take l.place names) l.invariant.opened (drop (l.place + 1) names) out (names_split names l.place c.input_at.result.now lt c.input_at.ensures.there)

pub returns : goal.returns
returns g c =
    let words = report_view c.args.words.now in
    let names = names_in words in
    let l = c.loop-place in
    let before = folder_seen g.F.Folder c.args.folder.now in
    let now = folder_seen g.F.Folder l.folder in
    subst (λ (ns : List (List ℕ)). AreOpened words ns (map (source_seen g.F.In.File) l.sources.items) before now)
    (take_all l.place names (omega (arith, length-map c.args.words.now.more.items (λ name. name.now)))) l.invariant.opened
