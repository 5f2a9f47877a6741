use Rattle.std.proofs.Common.{refl, arith}
use Rattle.dat_header.specs.Items.{sized}
use Rattle.dat_header.proofs.Wrapped.{texts_more, row_whole}
use Rattle.dat_header.proofs.lengths.formats_len.Goals as goal

pub loop-content-init : goal.loop-content-init
loop-content-init c = λ order. refl

pub loop-content-preserved : goal.loop-content-preserved
loop-content-preserved c = λ order. texts_more order c.args.texts.now c.loop-content.content-index c.content-item.result c.as_bytes.result.now c.loop-content.total c.loop-content-test.true c.content-item.is c.as_bytes.ensures (c.loop-content.invariant order)

pub returns : goal.returns
returns c = λ order. row_whole (sized 8 order) c.args.texts.now c.loop-content.content-index c.loop-content.total (omega arith) (c.loop-content.invariant order)
