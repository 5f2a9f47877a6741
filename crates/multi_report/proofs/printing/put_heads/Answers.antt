use Rattle.std.proofs.Common.{◌<◌, length, ◌∙◌, arith}
use Rattle.trace_outside.proofs.PendingLemmas.{parts_stopped}
use Rattle.multi_report.specs.Reports.{head_line}
use Rattle.multi_report.specs.Sources.{shown_of, seen}
use Rattle.multi_report.proofs.HeadLines.{held_all, held_more, stopped_at, stopped_cause}
use Rattle.multi_report.proofs.printing.put_heads.Goals as goal

pub returns-in_err-put_head : goal.returns-in_err-put_head
returns-in_err-put_head g c =
    let f = seen g.F.File g.L.LineFormat.text in
    let inside : c.loop-source.source-index < length c.args.sources.now = omega arith in
    record {
      puts = parts_stopped (λ source. head_line (shown_of (f source))) c.args.sources.now c.loop-source.source-index c.source-item.result _ _ _ _ _ _ c.from_residual.result inside c.from_residual.ensures.0 c.loop-source.invariant.held
          (stopped_at f c.source-item.result _ _ _ _ c.source-item.is c.in_err-put_head.ensures.puts);
      name = c.in_err-put_head.ensures.name ∙ c.loop-source.invariant.name;
      cause = stopped_cause _ _ _ c.from_residual.result c.loop-source.invariant.faults c.in_err-put_head.ensures.cause.later c.in_err-put_head.ensures.cause.failed c.from_residual.ensures.0;
    }

pub loop-source-preserved : goal.loop-source-preserved
loop-source-preserved g c =
    let f = seen g.F.File g.L.LineFormat.text in
    let inside : c.loop-source.source-index < length c.args.sources.now = omega arith in
    record {
      held = held_more f c.args.sources.now c.loop-source.source-index c.source-item.result _ _ _ _ _ _ inside c.source-item.is c.loop-source.invariant.held c.in_ok-put_head.ensures.puts;
      name = c.in_ok-put_head.ensures.name ∙ c.loop-source.invariant.name;
      faults = c.in_ok-put_head.ensures.cause.kept ∙ c.loop-source.invariant.faults;
    }

pub returns : goal.returns
returns g c =
    let f = seen g.F.File g.L.LineFormat.text in
    record {
      puts = held_all f c.args.sources.now c.loop-source.source-index _ _ _ _ (omega arith) c.loop-source.invariant.held;
      name = c.loop-source.invariant.name;
      cause = record { later = omega (arith, c.loop-source.invariant.faults); failed = tt; kept = c.loop-source.invariant.faults };
    }
