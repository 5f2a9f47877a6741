use Rattle.std.proofs.Common.{◌≡◌, ◌-◌, ◌≤◌}
use Rattle.std.specs.Option.{IfSome}
use Rattle.trace_outside.specs.Causes.{raised}
use Rattle.trace_outside.specs.Keeping.{KeepsFile, KeepsSink}
use Rattle.time_merge.specs.LaneRows.{parts_of}
use Rattle.time_merge.specs.Reads.{all_unread}
use Rattle.report_rounds.specs.Between.{AreBetween, all_work}
use Rattle.report_rounds.specs.Turns.{IsFurther}
use Rattle.report_rounds.proofs.Reporting.{first_state}
use Rattle.report_rounds.proofs.Turning.{round_state}
use Rattle.report_rounds.proofs.reports.go_round.Given as goal

abbrev pub invariant-loop-end : goal.invariant-loop-end
invariant-loop-end g l = record {
  between : AreBetween (g.L.LineFormat.text l.form) l.layout l.lanes l.work;
  parts : parts_of l.lanes ≡ parts_of l.fn.lanes;
  going : IfSome (g.F.File.bytes l.fn.file) (λ file. IsFurther (g.L.LineFormat.text l.form) file (first_state l.fn.lanes (g.O.Sink.written l.fn.out)) (round_state l.lanes l.last (g.O.Sink.written l.out)));
  keeps_out : KeepsSink g.O.Sink l.fn.out l.out;
  reads : g.F.File.reads l.file
      ≤ raised (g.F.File.reads l.fn.file)
      (all_unread (g.F.File.size l.fn.file) l.fn.lanes - all_unread (g.F.File.size l.fn.file) l.lanes);
  unread : all_unread (g.F.File.size l.fn.file) l.lanes ≤ all_unread (g.F.File.size l.fn.file) l.fn.lanes;
  keeps : KeepsFile g.F.File l.fn.file l.file;
}

abbrev pub decreases-loop-end : goal.decreases-loop-end
decreases-loop-end g l = all_work l.lanes
