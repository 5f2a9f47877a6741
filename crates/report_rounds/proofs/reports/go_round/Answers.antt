use Rattle.std.proofs.Common.{◌∙◌, Ok, Err, true, length, refl, ap, arith}
use Rattle.std.proofs.lemmas.List.{length-replicate}
use Rattle.std.proofs.lemmas.Result.{err_from_is_err_and}
use Rattle.trace_base.proofs.Layouts.{carried}
use Rattle.trace_outside.proofs.Keeping.{file_kept, file_still, sink_kept, sink_still}
use Rattle.report_rounds.proofs.DueReads.{due_told}
use Rattle.report_rounds.proofs.Reading.{less_further, reads_all, reads_ended, reads_further}
use Rattle.report_rounds.proofs.Reporting.{first_state, going_ended, going_on, going_start, turned_by}
use Rattle.report_rounds.proofs.Settling.{look_at_all}
use Rattle.report_rounds.proofs.Starting.{start_between}
use Rattle.report_rounds.proofs.Turning.{round_state}
use Rattle.report_rounds.proofs.reports.go_round.Goals as goal

pub loop-end-init : goal.loop-end-init
loop-end-init g c = record {
  between = record {
    each = start_between (g.L.LineFormat.text c.args.form.now) c.args.layout.now c.args.lanes.now c.requires.start c.requires.room;
    rise = c.requires.rise;
    slots = record { heads = c.requires.heads; highs = c.requires.highs; marks = ap length c.requires.moved ∙ length-replicate (length c.args.lanes.now) true };
    unmoved = look_at_all (g.L.LineFormat.text c.args.form.now) c.args.layout.now c.args.lanes.now c.args.work.now c.requires.moved;
    empty = c.requires.empty;
  };
  parts = refl;
  going = going_start (g.L.LineFormat.text c.args.form.now) c.args.layout.now (g.F.File.bytes c.args.file.now) c.args.lanes.now (g.O.Sink.written c.args.out.now) c.requires.start;
  reads = omega arith;
  unread = omega arith;
  keeps = file_still _ _;
  keeps_out = sink_still _ _;
}

pub loop-end-preserved : goal.loop-end-preserved
loop-end-preserved g c =
    let before = c.loop-end.invariant in
    let more = c.in_ok-end.ensures in
    let goes = ap Ok c.in_default.is in
    let on = more.goes_on goes in
    record {
      between = more.between goes;
      parts = on.parts ∙ before.parts;
      going = going_on (g.L.LineFormat.text c.args.form.now) c.args.layout.now (g.F.File.bytes c.args.file.now) (g.F.File.bytes c.loop-end.file) (first_state c.args.lanes.now (g.O.Sink.written c.args.out.now))
          (round_state c.loop-end.lanes c.loop-end.last (g.O.Sink.written c.loop-end.out)) (round_state c.turn.new.lanes c.turn.new.last (g.O.Sink.written c.turn.new.out)) before.keeps.bytes before.going
          (turned_by (g.L.LineFormat.text c.args.form.now) c.args.layout.now (g.F.File.bytes c.loop-end.file)
          (round_state c.loop-end.lanes c.loop-end.last (g.O.Sink.written c.loop-end.out)) (round_state c.turn.new.lanes c.turn.new.last (g.O.Sink.written c.turn.new.out)) _ _ c.in_default.is more.turned);
      reads = reads_further c.args.layout.now (g.F.File.size c.args.file.now) (g.F.File.size c.loop-end.file) _ _ _ c.args.lanes.now c.loop-end.lanes before.keeps.size before.reads before.unread
          c.turn.new.lanes on.unread on.reads;
      unread = less_further c.args.layout.now (g.F.File.size c.args.file.now) (g.F.File.size c.loop-end.file) _ _ 0 c.args.lanes.now c.loop-end.lanes before.keeps.size before.reads before.unread
          c.turn.new.lanes on.unread;
      keeps = file_kept before.keeps more.keeps;
      keeps_out = sink_kept before.keeps_out more.keeps_out;
    }

pub returns-in-Ends-clause-reads : goal.returns-in-Ends-clause-reads
returns-in-Ends-clause-reads g c =
    reads_ended c.args.layout.now (g.F.File.size c.args.file.now) (g.F.File.size c.loop-end.file) _ _ _ c.args.lanes.now c.loop-end.lanes c.loop-end.invariant.keeps.size c.loop-end.invariant.reads c.loop-end.invariant.unread
    (reads_all c.args.layout.now _ _ c.loop-end.lanes _ _ (omega (arith, (carried c.args.layout.now).page_least)) c.turn.ensures.loaded)

pub returns-in-Ends-clause-report : goal.returns-in-Ends-clause-report
returns-in-Ends-clause-report g c =
    going_ended (g.L.LineFormat.text c.args.form.now) c.args.layout.now (g.F.File.bytes c.args.file.now) (g.F.File.bytes c.loop-end.file) c.args.lanes.now (g.O.Sink.written c.args.out.now)
    (round_state c.loop-end.lanes c.loop-end.last (g.O.Sink.written c.loop-end.out)) (round_state c.turn.new.lanes c.turn.new.last (g.O.Sink.written c.turn.new.out)) (Ok c.in-Ends.end) c.requires.shown c.loop-end.invariant.keeps.bytes
    c.requires.start c.loop-end.invariant.parts c.loop-end.invariant.going
    (turned_by (g.L.LineFormat.text c.args.form.now) c.args.layout.now (g.F.File.bytes c.loop-end.file)
    (round_state c.loop-end.lanes c.loop-end.last (g.O.Sink.written c.loop-end.out)) (round_state c.turn.new.lanes c.turn.new.last (g.O.Sink.written c.turn.new.out)) _ _ c.in-Ends.is c.in_ok-end.ensures.turned)

pub returns-in-Ends-clause-due : goal.returns-in-Ends-clause-due
returns-in-Ends-clause-due g c =
    due_told (g.L.LineFormat.text c.args.form.now) c.args.layout.now (g.F.File.bytes c.args.file.now) (g.F.File.bytes c.loop-end.file) (g.F.File.size c.args.file.now) (g.F.File.size c.loop-end.file)
    c.args.lanes.now (g.O.Sink.written c.args.out.now) (round_state c.loop-end.lanes c.loop-end.last (g.O.Sink.written c.loop-end.out)) (round_state c.turn.new.lanes c.turn.new.last (g.O.Sink.written c.turn.new.out)) _ _ _ (Ok c.in-Ends.end)
    c.loop-end.invariant.keeps.bytes c.loop-end.invariant.keeps.size (g.met.F.File.size_is c.args.file.now) (omega (arith, (carried c.args.layout.now).page_least)) c.requires.start c.loop-end.invariant.between.each
    c.loop-end.invariant.parts c.loop-end.invariant.going c.turn.ensures.loaded
    (turned_by (g.L.LineFormat.text c.args.form.now) c.args.layout.now (g.F.File.bytes c.loop-end.file)
    (round_state c.loop-end.lanes c.loop-end.last (g.O.Sink.written c.loop-end.out)) (round_state c.turn.new.lanes c.turn.new.last (g.O.Sink.written c.turn.new.out)) _ _ c.in-Ends.is c.in_ok-end.ensures.turned) c.loop-end.invariant.unread c.loop-end.invariant.reads

pub returns-in_err-end-clause-reads : goal.returns-in_err-end-clause-reads
returns-in_err-end-clause-reads g c =
    reads_ended c.args.layout.now (g.F.File.size c.args.file.now) (g.F.File.size c.loop-end.file) _ _ _ c.args.lanes.now c.loop-end.lanes c.loop-end.invariant.keeps.size c.loop-end.invariant.reads c.loop-end.invariant.unread
    (reads_all c.args.layout.now _ _ c.loop-end.lanes _ _ (omega (arith, (carried c.args.layout.now).page_least)) c.turn.ensures.loaded)

pub returns-in_err-end-clause-report : goal.returns-in_err-end-clause-report
returns-in_err-end-clause-report g c =
    let p = err_from_is_err_and c.from_residual.result c.from_residual.ensures.1 in
    rw (p.1, p.2)
    (going_ended (g.L.LineFormat.text c.args.form.now) c.args.layout.now (g.F.File.bytes c.args.file.now) (g.F.File.bytes c.loop-end.file) c.args.lanes.now (g.O.Sink.written c.args.out.now)
    (round_state c.loop-end.lanes c.loop-end.last (g.O.Sink.written c.loop-end.out)) (round_state c.turn.new.lanes c.turn.new.last (g.O.Sink.written c.turn.new.out)) (Err c.in_err-end.field-0.0) c.requires.shown c.loop-end.invariant.keeps.bytes
    c.requires.start c.loop-end.invariant.parts c.loop-end.invariant.going c.in_err-end.ensures.turned)

pub returns-in_err-end-clause-due : goal.returns-in_err-end-clause-due
returns-in_err-end-clause-due g c =
    due_told (g.L.LineFormat.text c.args.form.now) c.args.layout.now (g.F.File.bytes c.args.file.now) (g.F.File.bytes c.loop-end.file) (g.F.File.size c.args.file.now) (g.F.File.size c.loop-end.file)
    c.args.lanes.now (g.O.Sink.written c.args.out.now) (round_state c.loop-end.lanes c.loop-end.last (g.O.Sink.written c.loop-end.out)) (round_state c.turn.new.lanes c.turn.new.last (g.O.Sink.written c.turn.new.out)) _ _ _ (Err c.in_err-end.field-0.0)
    c.loop-end.invariant.keeps.bytes c.loop-end.invariant.keeps.size (g.met.F.File.size_is c.args.file.now) (omega (arith, (carried c.args.layout.now).page_least)) c.requires.start c.loop-end.invariant.between.each
    c.loop-end.invariant.parts c.loop-end.invariant.going c.turn.ensures.loaded c.in_err-end.ensures.turned c.loop-end.invariant.unread c.loop-end.invariant.reads
