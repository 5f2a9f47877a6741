use Rattle.std.proofs.Common.{◌≡◌, ◌++◌, List, map, length}
use Rattle.trace_outside.specs.Seen.{file_seen}
use Rattle.trace_outside.specs.Open.{ClosesMany}
use Rattle.restore_tool.proofs.frame.close_files.Given as goal

abbrev pub invariant-loop-file : goal.invariant-loop-file
invariant-loop-file g l = record {
  closed : (tail : List g.row.F-In.Denot) × ((l.fn.files.items ≡ l.files.items ++ tail)
      × ClosesMany (map (file_seen g.F.In.File) tail) (g.F.Folder.counts l.fn.folder) (g.F.Folder.counts l.folder));
  files : g.F.Folder.files l.folder ≡ g.F.Folder.files l.fn.folder;
  requested : g.F.Folder.requested l.folder ≡ g.F.Folder.requested l.fn.folder;
}

abbrev pub decreases-loop-file : goal.decreases-loop-file
decreases-loop-file g l = length l.files.items
