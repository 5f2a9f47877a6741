use Rattle.std.proofs.Common.{◌≡◌, ◌≤◌, map}
use Rattle.trace_outside.specs.Seen.{file_seen}
use Rattle.restore_tool.specs.Copying.{AllKeep}
use Rattle.restore_tool.proofs.FilesBehind.{CopiedTo}
use Rattle.restore_tool.proofs.FilesKept.{AreUnread}
use Rattle.restore_tool.proofs.copying.copy_files.Given as goal

abbrev pub invariant-loop-i : goal.invariant-loop-i
invariant-loop-i g l = record {
  keeps : AllKeep (map (file_seen g.F.File) l.fn.files) (map (file_seen g.F.File) l.files);
  unread : AreUnread l.i (map (file_seen g.F.File) l.fn.files) (map (file_seen g.F.File) l.files);
  copied : CopiedTo l.page l.fn.place (map (file_seen g.F.File) l.fn.files) l.i l.place (g.O.Sink.written l.fn.out) (g.O.Sink.written l.out);
  name : g.O.Sink.name l.out ≡ g.O.Sink.name l.fn.out;
  out_later : g.O.Sink.faults l.fn.out ≤ g.O.Sink.faults l.out;
}
