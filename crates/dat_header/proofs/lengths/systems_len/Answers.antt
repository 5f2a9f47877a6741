use Rattle.std.proofs.Common.{refl, arith}
use Rattle.dat_header.specs.Items.{system_text}
use Rattle.dat_header.proofs.Wrapped.{systems_more, row_whole}
use Rattle.dat_header.proofs.lengths.systems_len.Goals as goal

pub loop-system-init : goal.loop-system-init
loop-system-init c = λ order. refl

pub loop-system-preserved : goal.loop-system-preserved
loop-system-preserved c = λ order.
    systems_more order c.args.systems.now c.loop-system.system-index c.system-item.result c.as_bytes.result.now c.as_slice.result.now c.formats_len-formats.result c.loop-system.total c.loop-system-test.true c.system-item.is
    c.as_bytes.ensures c.as_slice.ensures (c.formats_len-formats.ensures order) (c.loop-system.invariant order)

pub returns : goal.returns
returns c = λ order. row_whole (system_text order) c.args.systems.now c.loop-system.system-index c.loop-system.total (omega arith) (c.loop-system.invariant order)
