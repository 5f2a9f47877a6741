use Rattle.std.proofs.Common.{◌<◌, length, arith, rules}
use Rattle.trace_outside.proofs.PendingLemmas.{parts_stopped}
use Rattle.trace_outside.proofs.pending.Pending.put_parts.Goals as goal

pub returns-in_err-put : goal.returns-in_err-put
returns-in_err-put g c =
    let inside : c.loop-part.part-index < length c.args.parts.now = omega arith in
    record {
      puts = parts_stopped (λ part. part.now) c.args.parts.now c.loop-part.part-index _ _ _ _ _ _ _ c.from_residual.result inside c.from_residual.ensures.0 c.loop-part.invariant.held c.in_err-put.ensures.puts;
      name = search rules;
      cause = search rules;
    }
