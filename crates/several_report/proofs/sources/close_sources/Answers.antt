use Rattle.std.proofs.Common.{rules, ◌≡◌, ◌∙◌, [], ◌∷◌, length, map, refl, sym}
use Rattle.std.proofs.lemmas.List.{append-nil}
use Rattle.trace_outside.proofs.OpenFiles.{closes_more, closes_none, last_of}
use Rattle.several_report.specs.OpenInput.{file_in, source_seen}
use Rattle.several_report.proofs.OpenInputs.{inputs_closed}
use Rattle.several_report.proofs.sources.close_sources.Goals as goal

pub loop-source-init : goal.loop-source-init
loop-source-init g c = record { closed = ([], (sym (append-nil c.args.sources.items), closes_none (g.F.Folder.counts c.args.folder.now))); files = refl; requested = refl }

pub loop-source-preserved : goal.loop-source-preserved
loop-source-preserved g c =
    let f = source_seen g.F.In.File in
    let before = c.loop-source.invariant in
    let tail = before.closed.0 in
    let source = c.in-Some.source in
    record {
      closed = (
        source ∷ tail,
        (
          last_of (λ s. file_in (f s)) c.args.sources.items c.loop-source.sources.items c.pop.new.self.items tail source before.closed.1.0 c.in-Some.ensures.items,
          closes_more (file_in (f source)) (map file_in (map f tail)) (g.F.Folder.counts c.args.folder.now) (g.F.Folder.counts c.loop-source.folder) (g.F.Folder.counts c.close_source.new.folder) before.closed.1.1 c.close_source.ensures.counts,
        ),
      );
      files = c.close_source.ensures.files ∙ before.files;
      requested = c.close_source.ensures.requested ∙ before.requested;
    }

pub returns-clause-counts : goal.returns-clause-counts
returns-clause-counts g c =
    let f = source_seen g.F.In.File in
    let before = c.loop-source.invariant in
    let none : length c.loop-source.sources.items ≡ 0 = search rules in
    inputs_closed f c.args.sources.items c.loop-source.sources.items before.closed.0 _ _ before.closed.1.0 none before.closed.1.1
