use Rattle.std.proofs.Common.{◌∙◌}
use Rattle.fmt_directives.proofs.Runs.{bounded_more}
use Rattle.fmt_directives.proofs.conversion.bounded.Goals as goal

pub loop-byte-preserved : goal.loop-byte-preserved
loop-byte-preserved c = c.min-number.ensures ∙ bounded_more c.args.digits.now c.loop-byte.byte-index c.loop-byte.number c.requires c.loop-byte-test.true c.loop-byte.invariant
