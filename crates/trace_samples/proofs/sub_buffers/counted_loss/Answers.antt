use Rattle.std.proofs.Common.{arith}
use Rattle.trace_samples.proofs.Samples.{loss_packable}
use Rattle.trace_samples.proofs.sub_buffers.counted_loss.Goals as goal

pub returns-clause-packable : goal.returns-clause-packable
returns-clause-packable c = loss_packable _ _ (omega (arith, c.ranges.time.fits)) (omega (arith, c.ranges.number.fits))
