use Rattle.std.proofs.Common.{◌≤◌, ◌∙◌, List, true, IfSome, length, replicate, ap, subst, sym}
use Rattle.std.specs.Prelude.{sum_by}
use Rattle.std.specs.List.{All}
use Rattle.trace_outside.specs.Causes.{raised}
use Rattle.subpage.specs.Arrangement.{CpusRise}
use Rattle.page_pool.specs.declared.lane.Lane.{Lane}
use Rattle.time_merge.specs.LaneRows.{parts_of}
use Rattle.report_rounds.specs.Between.{HasRoom, IsAtStart}
use Rattle.report_rounds.specs.Due.{ReadsDue}
use Rattle.report_rounds.specs.LanesSeen.{LanesSeen}
use Rattle.report_rounds.specs.Reports.{IsReport}
use Rattle.report_rounds.proofs.reports.report_rounds.Goals as goal

pub go_round-requires-clause-start : goal.go_round-requires-clause-start
go_round-requires-clause-start g c κs live =
    subst (λ (lanes : List Lane). All (IsAtStart c.lanes.inside.layout) lanes) (sym c.lanes-all.ensures.value) c.lanes.invariant.start

pub go_round-requires-clause-room : goal.go_round-requires-clause-room
go_round-requires-clause-room g c κs live =
    subst (λ (lanes : List Lane). All (HasRoom (g.L.LineFormat.text c.args.form.now)) lanes) (sym c.lanes-all.ensures.value)
    (subst (λ (seen : LanesSeen). All (HasRoom (g.L.LineFormat.text c.args.form.now)) seen.all) (sym c.lanes.view_is) c.requires.room)

pub go_round-requires-clause-rise : goal.go_round-requires-clause-rise
go_round-requires-clause-rise g c κs live =
    subst (λ (lanes : List Lane). CpusRise (parts_of lanes)) (sym c.lanes-all.ensures.value) c.lanes.invariant.rise

pub go_round-requires-clause-heads : goal.go_round-requires-clause-heads
go_round-requires-clause-heads g c κs live = c.lanes.invariant.heads ∙ ap length (sym c.lanes-all.ensures.value)

pub go_round-requires-clause-highs : goal.go_round-requires-clause-highs
go_round-requires-clause-highs g c κs live = c.lanes.invariant.highs ∙ ap length (sym c.lanes-all.ensures.value)

pub go_round-requires-clause-moved : goal.go_round-requires-clause-moved
go_round-requires-clause-moved g c κs live =
    c.lanes.invariant.moved ∙ ap (λ (lanes : List Lane). replicate (length lanes) true) (sym c.lanes-all.ensures.value)

pub returns-clause-report : goal.returns-clause-report
returns-clause-report g c =
    subst (λ (seen : LanesSeen). IfSome (g.F.File.bytes c.args.file.now) (λ bytes. IsReport (g.L.LineFormat.text c.args.form.now) seen.layout bytes (parts_of seen.all)
    (g.O.Sink.written c.args.out.now) (g.O.Sink.written c.go_round.new.out) c.go_round.result)) c.lanes.view_is
    (subst (λ (lanes : List Lane). IfSome (g.F.File.bytes c.args.file.now) (λ bytes. IsReport (g.L.LineFormat.text c.args.form.now) c.lanes.inside.layout bytes (parts_of lanes)
    (g.O.Sink.written c.args.out.now) (g.O.Sink.written c.go_round.new.out) c.go_round.result)) c.lanes-all.ensures.value c.go_round.ensures.report)

pub returns-clause-reads : goal.returns-clause-reads
returns-clause-reads g c =
    subst (λ (seen : LanesSeen). g.F.File.reads c.go_round.new.file ≤ raised (g.F.File.reads c.args.file.now) (sum_by (λ part. part.1.size) (parts_of seen.all))) c.lanes.view_is
    (subst (λ (lanes : List Lane). g.F.File.reads c.go_round.new.file ≤ raised (g.F.File.reads c.args.file.now) (sum_by (λ part. part.1.size) (parts_of lanes))) c.lanes-all.ensures.value
    c.go_round.ensures.reads)

pub returns-clause-due : goal.returns-clause-due
returns-clause-due g c =
    subst (λ (seen : LanesSeen). IfSome (g.F.File.bytes c.args.file.now) (λ bytes. ReadsDue (g.L.LineFormat.text c.args.form.now) seen.layout bytes (parts_of seen.all)
    (g.O.Sink.written c.args.out.now) (g.O.Sink.written c.go_round.new.out) (g.F.File.reads c.args.file.now) (g.F.File.reads c.go_round.new.file))) c.lanes.view_is
    (subst (λ (lanes : List Lane). IfSome (g.F.File.bytes c.args.file.now) (λ bytes. ReadsDue (g.L.LineFormat.text c.args.form.now) c.lanes.inside.layout bytes (parts_of lanes)
    (g.O.Sink.written c.args.out.now) (g.O.Sink.written c.go_round.new.out) (g.F.File.reads c.args.file.now) (g.F.File.reads c.go_round.new.file))) c.lanes-all.ensures.value
    c.go_round.ensures.due)
