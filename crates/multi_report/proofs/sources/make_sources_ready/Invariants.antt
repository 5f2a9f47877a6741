use Rattle.std.proofs.Common.{◌≡◌, length, map}
use Rattle.multi_report.specs.Sources.{Keeps, seen}
use Rattle.multi_report.proofs.Files.{Tied}
use Rattle.multi_report.proofs.Loops.{AreBegun, AreStill}
use Rattle.multi_report.proofs.sources.make_sources_ready.Given as goal

abbrev pub invariant-loop-j : goal.invariant-loop-j
invariant-loop-j g l = record {
  tied : Tied Keeps (map (seen g.F.File g.L.LineFormat.text) l.fn.sources) (map (seen g.F.File g.L.LineFormat.text) l.sources);
  still : AreStill (map (seen g.F.File g.L.LineFormat.text) l.fn.sources) (map (seen g.F.File g.L.LineFormat.text) l.sources) l.j;
  begun : AreBegun (map (seen g.F.File g.L.LineFormat.text) l.fn.sources) (map (seen g.F.File g.L.LineFormat.text) l.sources) l.nexts l.j;
  slots : length l.nexts ≡ length l.fn.nexts;
}
