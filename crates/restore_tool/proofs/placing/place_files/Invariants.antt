use Rattle.std.proofs.Common.{map}
use Rattle.trace_outside.specs.Seen.{file_seen}
use Rattle.restore_tool.proofs.FilesBehind.{PlacedTo}
use Rattle.restore_tool.proofs.placing.place_files.Given as goal

abbrev pub invariant-loop-i : goal.invariant-loop-i
invariant-loop-i g l = PlacedTo l.page l.fn.place (map (file_seen g.F.File) l.files) l.i l.place l.parts
