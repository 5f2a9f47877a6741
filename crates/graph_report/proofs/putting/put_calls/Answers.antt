use Rattle.std.proofs.Common.{◌<◌, length, arith, rules}
use Rattle.trace_outside.proofs.PendingLemmas.{parts_stopped}
use Rattle.graph_report.specs.CallText.{call_line}
use Rattle.graph_report.proofs.putting.put_calls.Goals as goal

pub returns-in_err-put_one : goal.returns-in_err-put_one
returns-in_err-put_one g c =
    let inside : c.loop-call.call-index < length c.args.calls.now = omega arith in
    record {
      puts = parts_stopped (call_line c.args.context.now) c.args.calls.now c.loop-call.call-index _ _ _ _ _ _ _ c.from_residual.result inside c.from_residual.ensures.0 c.loop-call.invariant.held c.in_err-put_one.ensures.puts.puts;
      name = search rules;
      cause = search rules;
    }
