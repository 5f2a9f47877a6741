use Rattle.std.proofs.Common.{map, ◌≡◌, length, sum_by}
use Rattle.std.specs.List.{All}
use Rattle.trace_outside.specs.Keeping.{KeepsSink}
use Rattle.multi_report.specs.Reports.{AreSame}
use Rattle.multi_report.specs.Sources.{HasRoom, IsPrepared, seen, work}
use Rattle.multi_report.specs.Turns.{state_of}
use Rattle.multi_report.proofs.Files.{NoMoreDue}
use Rattle.multi_report.proofs.ReportLaws.{IsOnWay}
use Rattle.multi_report.proofs.report.report_files.Given as goal

abbrev pub invariant-loop-end : goal.invariant-loop-end
invariant-loop-end g l = record {
  prepared : All IsPrepared (map (seen g.F.File g.L.LineFormat.text) l.sources);
  room : All (HasRoom (length l.buffer)) (map (seen g.F.File g.L.LineFormat.text) l.sources);
  slots : length l.nexts ≡ length l.sources;
  same : AreSame (map (seen g.F.File g.L.LineFormat.text) l.fn.sources) (map (seen g.F.File g.L.LineFormat.text) l.sources);
  due : NoMoreDue (map (seen g.F.File g.L.LineFormat.text) l.fn.sources) (map (seen g.F.File g.L.LineFormat.text) l.sources);
  way : IsOnWay (map (seen g.F.File g.L.LineFormat.text) l.fn.sources) (g.O.Sink.written l.fn.out) (state_of (map (seen g.F.File g.L.LineFormat.text) l.sources) l.nexts (g.O.Sink.written l.out) l.pending);
  keeps_out : KeepsSink g.O.Sink l.fn.out l.out;
}

abbrev pub decreases-loop-end : goal.decreases-loop-end
decreases-loop-end g l = sum_by work (map (seen g.F.File g.L.LineFormat.text) l.sources)
