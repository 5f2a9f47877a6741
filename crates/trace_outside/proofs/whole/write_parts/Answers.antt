use Rattle.std.proofs.Common.{◌<◌, length, arith}
use Rattle.trace_outside.proofs.Gains.{prefix_of_parts, on_err}
use Rattle.trace_outside.proofs.whole.write_parts.Goals as goal

pub returns-in_err-write_all-clause-prefix : goal.returns-in_err-write_all-clause-prefix
returns-in_err-write_all-clause-prefix g c =
    let inside : c.loop-part.part-index < length c.args.parts.now = omega arith in
    on_err c.from_residual.result (prefix_of_parts (λ part. part.now) c.args.parts.now c.loop-part.part-index _ _ _ _ inside c.loop-part.invariant.gained c.in_err-write_all.ensures.prefix)
