use Rattle.std.proofs.Common.{Ok, ℕ, Option, IfNone, length, map, subst, sym}
use Rattle.std.specs.List.{All}
use Rattle.trace_outside.proofs.Keeping.{sink_kept}
use Rattle.multi_report.specs.declared.report.FilesEnd.{FilesEnd}
use Rattle.multi_report.specs.Reports.{ReadRose, WriteRose}
use Rattle.multi_report.specs.Sources.{HasRoom, seen}
use Rattle.multi_report.specs.Turns.{AreReadied}
use Rattle.multi_report.proofs.Files.{due_twice, parts_read, room_all, same_twice}
use Rattle.multi_report.proofs.ReportLaws.{handed, read_from, report_is, report_stopped, slots_on, still_underway, turned_last}
use Rattle.multi_report.proofs.TurnLaws.{rose_from}
use Rattle.multi_report.proofs.report.report_files.Goals as goal

pub returns-in_err-begin-clause-reads : goal.returns-in_err-begin-clause-reads
returns-in_err-begin-clause-reads g c =
    let f = seen g.F.File g.L.LineFormat.text in
    parts_read (map f c.args.sources.now) (map f c.begin.new.sources) c.begin.ensures.same

pub returns-in_err-end-clause-report : goal.returns-in_err-end-clause-report
returns-in_err-end-clause-report g c = λ told.
    let f = seen g.F.File g.L.LineFormat.text in
    let same = same_twice (map f c.args.sources.now) (map f c.loop-end.sources) (map f c.turn.new.sources) c.loop-end.invariant.same c.loop-end.invariant.due c.turn.ensures.same in
    let why = c.in_err-end.field-0.0 in
    report_stopped (map f c.args.sources.now) (map f c.turn.new.sources) (g.O.Sink.written c.args.out.now) (g.O.Sink.written c.turn.new.out) why c.from_residual-in_err-end.result c.from_residual-in_err-end.ensures.1
    same (c.in_err-end.ensures.turned _ _ (c.loop-end.invariant.way told))

pub returns-in_err-end-clause-read : goal.returns-in_err-end-clause-read
returns-in_err-end-clause-read g c =
    let f = seen g.F.File g.L.LineFormat.text in
    let first = map f c.args.sources.now in
    let now = map f c.turn.new.sources in
    let why = c.in_err-end.field-0.0 in
    handed (λ w. ReadRose w first now) why c.from_residual-in_err-end.result c.from_residual-in_err-end.ensures.1
    (read_from why first (map f c.loop-end.sources) now c.loop-end.invariant.same c.in_err-end.ensures.read)

pub returns-in_err-end-clause-write : goal.returns-in_err-end-clause-write
returns-in_err-end-clause-write g c =
    let why = c.in_err-end.field-0.0 in
    handed (λ w. WriteRose w (g.O.Sink.faults c.args.out.now) (g.O.Sink.faults c.turn.new.out)) why c.from_residual-in_err-end.result c.from_residual-in_err-end.ensures.1
    (rose_from why _ _ _ c.loop-end.invariant.keeps_out.later c.in_err-end.ensures.write)

pub returns-in_err-end-clause-reads : goal.returns-in_err-end-clause-reads
returns-in_err-end-clause-reads g c =
    let f = seen g.F.File g.L.LineFormat.text in
    let same = same_twice (map f c.args.sources.now) (map f c.loop-end.sources) (map f c.turn.new.sources) c.loop-end.invariant.same c.loop-end.invariant.due c.turn.ensures.same in
    parts_read (map f c.args.sources.now) (map f c.turn.new.sources) same

pub returns-in_err-end-clause-same : goal.returns-in_err-end-clause-same
returns-in_err-end-clause-same g c =
    let f = seen g.F.File g.L.LineFormat.text in
    same_twice (map f c.args.sources.now) (map f c.loop-end.sources) (map f c.turn.new.sources) c.loop-end.invariant.same c.loop-end.invariant.due c.turn.ensures.same

pub returns-in-Some-clause-report : goal.returns-in-Some-clause-report
returns-in-Some-clause-report g c = λ told.
    let f = seen g.F.File g.L.LineFormat.text in
    let same = same_twice (map f c.args.sources.now) (map f c.loop-end.sources) (map f c.turn.new.sources) c.loop-end.invariant.same c.loop-end.invariant.due c.turn.ensures.same in
    report_is (map f c.args.sources.now) (map f c.turn.new.sources) (g.O.Sink.written c.args.out.now) (g.O.Sink.written c.turn.new.out) (Ok c.in-Some.end)
    same (turned_last _ _ _ c.in_ok-end.field-0 c.in-Some.end c.in-Some.is (c.in_ok-end.ensures.turned _ _ (c.loop-end.invariant.way told)))

pub returns-in-Some-clause-reads : goal.returns-in-Some-clause-reads
returns-in-Some-clause-reads g c =
    let f = seen g.F.File g.L.LineFormat.text in
    let same = same_twice (map f c.args.sources.now) (map f c.loop-end.sources) (map f c.turn.new.sources) c.loop-end.invariant.same c.loop-end.invariant.due c.turn.ensures.same in
    parts_read (map f c.args.sources.now) (map f c.turn.new.sources) same

pub returns-in-Some-clause-same : goal.returns-in-Some-clause-same
returns-in-Some-clause-same g c =
    let f = seen g.F.File g.L.LineFormat.text in
    same_twice (map f c.args.sources.now) (map f c.loop-end.sources) (map f c.turn.new.sources) c.loop-end.invariant.same c.loop-end.invariant.due c.turn.ensures.same

pub loop-end-preserved : goal.loop-end-preserved
loop-end-preserved g c =
    let f = seen g.F.File g.L.LineFormat.text in
    let first = map f c.args.sources.now in
    let old = map f c.loop-end.sources in
    let now = map f c.turn.new.sources in
    let before = c.loop-end.invariant in
    let more = c.turn.ensures in
    let readied = subst (λ (end : Option FilesEnd). IfNone end (AreReadied old now)) c.in_default.is c.in_ok-end.ensures.readied in
    record {
      prepared = readied.prepared;
      room = subst (λ (n : ℕ). All (HasRoom n) now) (sym more.long) (room_all (length c.loop-end.buffer) old now more.same before.room);
      slots = slots_on f c.loop-end.sources c.turn.new.sources c.loop-end.nexts c.turn.new.nexts more.same before.slots more.slots;
      same = same_twice first old now before.same before.due more.same;
      due = due_twice first old now before.same.count before.due readied.due;
      way = λ told. still_underway _ _ _ c.in_ok-end.field-0 c.in_default.is (c.in_ok-end.ensures.turned _ _ (before.way told));
      keeps_out = sink_kept before.keeps_out more.keeps_out;
    }
