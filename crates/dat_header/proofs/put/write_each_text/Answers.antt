use Rattle.std.proofs.Common.{arith}
use Rattle.std.proofs.lemmas.Result.{err_from_is_err_and}
use Rattle.dat_header.specs.Items.{sized}
use Rattle.dat_header.proofs.Written.{writes_nothing, writes_more, writes_row_failed, writes_row}
use Rattle.dat_header.proofs.put.write_each_text.Goals as goal

pub loop-content-init : goal.loop-content-init
loop-content-init g c = writes_nothing _ _

pub loop-content-preserved : goal.loop-content-preserved
loop-content-preserved g c = writes_more (sized 8 c.args.order) c.args.texts.now c.loop-content.content-index c.content-item.result _ _ _ _ _ (omega arith) c.content-item.is c.loop-content.invariant c.in_ok-write_long_text.ensures

pub returns-in_err-write_long_text : goal.returns-in_err-write_long_text
returns-in_err-write_long_text g c =
    let p = err_from_is_err_and c.from_residual.result c.from_residual.ensures.1 in
    rw (p.1, p.2) (writes_row_failed (sized 8 c.args.order) c.args.texts.now c.loop-content.content-index c.content-item.result _ _ _ _ _ (omega arith) c.content-item.is c.loop-content.invariant c.in_err-write_long_text.ensures)

pub returns : goal.returns
returns g c = writes_row (sized 8 c.args.order) c.args.texts.now c.loop-content.content-index _ _ _ (omega arith) c.loop-content.invariant
