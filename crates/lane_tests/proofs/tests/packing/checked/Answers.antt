use Rattle.std.proofs.Common.{arith}
use Rattle.trace_base.proofs.Layouts.{carried}
use Rattle.page_write.proofs.Packable.{found_packable}
use Rattle.lane_tests.proofs.tests.packing.checked.Goals as goal

pub returns : goal.returns
returns c = found_packable c.args.layout.now c.args.bytes.now c.check_page.result (carried c.args.layout.now) c.requires.whole (λ i. omega (arith, c.type_inv.bytes i)) c.check_page.ensures.exact
