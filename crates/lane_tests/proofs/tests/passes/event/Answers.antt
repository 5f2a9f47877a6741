use Rattle.std.proofs.Common.{arith}
use Rattle.trace_base.proofs.Layouts.{carried}
use Rattle.page_write.proofs.Packable.{few_packable}
use Rattle.lane_tests.proofs.tests.passes.event.Goals as goal

pub returns : goal.returns
returns c = λ layout. few_packable layout c.args.time _ (carried layout) (omega (arith, c.ranges.time.fits)) (omega arith)
