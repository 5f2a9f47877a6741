use Rattle.std.proofs.Common.{◌≡◌, map, length, take, vec_capacity}
use Rattle.std.specs.List.{All}
use Rattle.trace_outside.specs.Seen.{file_seen}
use Rattle.trace_outside.specs.Open.{AreFilesOf, IsUnused, OpensMany}
use Rattle.new_files.specs.Requested.{AskedAll}
use Rattle.std.specs.Option.{IfSome}
use Rattle.restore_tool.proofs.frame.open_files.Given as goal

abbrev pub invariant-loop-name : goal.invariant-loop-name
invariant-loop-name g l = record {
  count : length l.files.items ≡ l.name-index;
  room : vec_capacity l.files ≡ vec_capacity l.fn.files;
  told : AreFilesOf (g.F.Folder.files l.fn.folder) (map (λ name. name.now) l.names) (map (file_seen g.F.In.File) l.files.items);
  unused : All IsUnused (map (file_seen g.F.In.File) l.files.items);
  counts : OpensMany (g.F.Folder.counts l.fn.folder) (g.F.Folder.counts l.folder) (length l.files.items);
  unmissed : IfSome (g.F.Folder.files l.fn.folder) (λ named. (g.F.Folder.counts l.folder).misses ≡ (g.F.Folder.counts l.fn.folder).misses);
  files : g.F.Folder.files l.folder ≡ g.F.Folder.files l.fn.folder;
  requested : AskedAll (take l.name-index (map (λ name. name.now) l.names)) (g.F.Folder.requested l.fn.folder) (g.F.Folder.requested l.folder);
}
