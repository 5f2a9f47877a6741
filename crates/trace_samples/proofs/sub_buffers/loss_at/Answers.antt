use Rattle.std.proofs.Common.{arith}
use Rattle.trace_samples.proofs.Samples.{loss_packable}
use Rattle.trace_samples.proofs.sub_buffers.loss_at.Goals as goal

pub returns-in-None-clause-packable : goal.returns-in-None-clause-packable
returns-in-None-clause-packable c = loss_packable _ _ (omega (arith, c.ranges.time.fits)) tt
