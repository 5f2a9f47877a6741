use Rattle.std.proofs.Common.{rules, ◌≡◌, ◌∙◌, [], ◌∷◌, length, map, refl, sym}
use Rattle.std.proofs.lemmas.List.{append-nil}
use Rattle.trace_outside.specs.Seen.{file_seen}
use Rattle.trace_outside.proofs.OpenFiles.{closes_all, closes_more, closes_none, last_of}
use Rattle.restore_tool.proofs.frame.close_files.Goals as goal

pub loop-file-init : goal.loop-file-init
loop-file-init g c = record { closed = ([], (sym (append-nil c.args.files.items), closes_none (g.F.Folder.counts c.args.folder.now))); files = refl; requested = refl }

pub loop-file-preserved : goal.loop-file-preserved
loop-file-preserved g c =
    let f = file_seen g.F.In.File in
    let before = c.loop-file.invariant in
    let tail = before.closed.0 in
    let file = c.in-Some.file in
    record {
      closed = (
        file ∷ tail,
        (
          last_of f c.args.files.items c.loop-file.files.items c.pop.new.self.items tail file before.closed.1.0 c.in-Some.ensures.items,
          closes_more (f file) (map f tail) (g.F.Folder.counts c.args.folder.now) (g.F.Folder.counts c.loop-file.folder) (g.F.Folder.counts c.close_file.new.self) before.closed.1.1 c.close_file.ensures.counts,
        ),
      );
      files = c.close_file.ensures.files ∙ before.files;
      requested = c.close_file.ensures.requested ∙ before.requested;
    }

pub returns-clause-counts : goal.returns-clause-counts
returns-clause-counts g c =
    let f = file_seen g.F.In.File in
    let before = c.loop-file.invariant in
    let none : length c.loop-file.files.items ≡ 0 = search rules in
    closes_all f c.args.files.items c.loop-file.files.items before.closed.0 _ _ before.closed.1.0 none before.closed.1.1
