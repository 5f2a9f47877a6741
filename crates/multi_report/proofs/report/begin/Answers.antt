use Rattle.std.proofs.Common.{◌++◌, ℕ, List, map, subst}
use Rattle.trace_outside.specs.Pending.{Holds}
use Rattle.trace_outside.specs.Writing.{GainedPrefix}
use Rattle.multi_report.specs.Order.{cut_of_files}
use Rattle.multi_report.specs.Sources.{seen, shown_of}
use Rattle.multi_report.proofs.Files.{keeps_same}
use Rattle.multi_report.proofs.Going.{begun_write}
use Rattle.multi_report.proofs.HeadLines.{heads_text}
use Rattle.multi_report.proofs.Loops.{as_long}
use Rattle.multi_report.proofs.ReportLaws.{first_stopped, heads_stopped, read_first, underway_first}
use Rattle.multi_report.proofs.report.begin.Goals as goal

pub returns-in_err-put_heads-clause-turned : goal.returns-in_err-put_heads-clause-turned
returns-in_err-put_heads-clause-turned g c = λ told.
    let f = seen g.F.File g.L.LineFormat.text in
    begun_write _ _ _ c.from_residual.result c.from_residual.ensures.1
    (heads_stopped (map f c.args.sources.now) (g.O.Sink.written c.args.out.now) (g.O.Sink.written c.put_heads.new.out) c.args.pending.now c.requires.empty
    (λ b text held. subst (λ (t : List ℕ). GainedPrefix b (g.O.Sink.written c.put_heads.new.out) (text ++ t)) (heads_text f c.args.sources.now) (c.in_err-put_heads.ensures.puts b text held)))

pub returns-in-None-clause-same : goal.returns-in-None-clause-same
returns-in-None-clause-same g c =
    let f = seen g.F.File g.L.LineFormat.text in
    let now = c.make_sources_ready.new.sources in
    keeps_same (map f c.args.sources.now) (map f now) (as_long f now c.args.sources.now c.make_sources_ready.ensures.count) c.make_sources_ready.ensures.keeps

pub returns-in-None-clause-turned : goal.returns-in-None-clause-turned
returns-in-None-clause-turned g c = λ told.
    let f = seen g.F.File g.L.LineFormat.text in
    let now = c.make_sources_ready.new.sources in
    underway_first (map f c.args.sources.now) (map f now) c.make_sources_ready.new.nexts (g.O.Sink.written c.args.out.now) (g.O.Sink.written c.put_heads.new.out) c.args.pending.now c.put_heads.new.pending c.in-None.ensures.layouts c.requires.fresh told c.requires.empty
    (as_long f now c.args.sources.now c.make_sources_ready.ensures.count) c.make_sources_ready.ensures.keeps c.in-None.ensures.keys
    (λ b text held. subst (λ (t : List ℕ). Holds b (g.O.Sink.written c.put_heads.new.out) c.put_heads.new.pending (text ++ t)) (heads_text f c.args.sources.now) (c.in_ok-put_heads.ensures.puts b text held))

pub returns-in_ok-flush-in-Some-clause-same : goal.returns-in_ok-flush-in-Some-clause-same
returns-in_ok-flush-in-Some-clause-same g c =
    let f = seen g.F.File g.L.LineFormat.text in
    let now = c.make_sources_ready.new.sources in
    keeps_same (map f c.args.sources.now) (map f now) (as_long f now c.args.sources.now c.make_sources_ready.ensures.count) c.make_sources_ready.ensures.keeps

pub returns-in_ok-flush-in-Some-clause-turned : goal.returns-in_ok-flush-in-Some-clause-turned
returns-in_ok-flush-in-Some-clause-turned g c = λ told.
    let f = seen g.F.File g.L.LineFormat.text in
    let now = c.make_sources_ready.new.sources in
    read_first (map f c.args.sources.now) (cut_of_files (map shown_of (map f now))) (g.O.Sink.written c.args.out.now) (g.O.Sink.written c.put_heads.new.out) (g.O.Sink.written c.flush.new.out) c.args.pending.now c.put_heads.new.pending c.in-Some.j
    c.requires.empty
    (λ b text held. subst (λ (t : List ℕ). Holds b (g.O.Sink.written c.put_heads.new.out) c.put_heads.new.pending (text ++ t)) (heads_text f c.args.sources.now) (c.in_ok-put_heads.ensures.puts b text held))
    c.in_ok-flush-in-Some.ensures.flushes.0

pub returns-in_err-flush-in-Some-clause-same : goal.returns-in_err-flush-in-Some-clause-same
returns-in_err-flush-in-Some-clause-same g c =
    let f = seen g.F.File g.L.LineFormat.text in
    let now = c.make_sources_ready.new.sources in
    keeps_same (map f c.args.sources.now) (map f now) (as_long f now c.args.sources.now c.make_sources_ready.ensures.count) c.make_sources_ready.ensures.keeps

pub returns-in_err-flush-in-Some-clause-turned : goal.returns-in_err-flush-in-Some-clause-turned
returns-in_err-flush-in-Some-clause-turned g c = λ told.
    let f = seen g.F.File g.L.LineFormat.text in
    let now = c.make_sources_ready.new.sources in
    begun_write _ _ _ c.from_residual-in_err-flush-in-Some.result c.from_residual-in_err-flush-in-Some.ensures.1
    (first_stopped (map f c.args.sources.now) (g.O.Sink.written c.args.out.now) (g.O.Sink.written c.put_heads.new.out) (g.O.Sink.written c.flush.new.out) c.args.pending.now c.put_heads.new.pending c.requires.empty
    (λ b text held. subst (λ (t : List ℕ). Holds b (g.O.Sink.written c.put_heads.new.out) c.put_heads.new.pending (text ++ t)) (heads_text f c.args.sources.now) (c.in_ok-put_heads.ensures.puts b text held))
    c.in_err-flush-in-Some.ensures.flushes)
