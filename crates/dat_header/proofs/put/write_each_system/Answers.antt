use Rattle.std.proofs.Common.{arith}
use Rattle.std.proofs.lemmas.Result.{err_from_is_err_and}
use Rattle.dat_header.specs.Items.{system_text}
use Rattle.dat_header.proofs.Written.{writes_nothing, writes_more, writes_row_failed, writes_row}
use Rattle.dat_header.proofs.put.write_each_system.Goals as goal

pub loop-system-init : goal.loop-system-init
loop-system-init g c = writes_nothing _ _

pub loop-system-preserved : goal.loop-system-preserved
loop-system-preserved g c = writes_more (system_text c.args.order) c.args.systems.now c.loop-system.system-index c.system-item.result _ _ _ _ _ (omega arith) c.system-item.is c.loop-system.invariant c.in_ok-write_system.ensures

pub returns-in_err-write_system : goal.returns-in_err-write_system
returns-in_err-write_system g c =
    let p = err_from_is_err_and c.from_residual.result c.from_residual.ensures.1 in
    rw (p.1, p.2) (writes_row_failed (system_text c.args.order) c.args.systems.now c.loop-system.system-index c.system-item.result _ _ _ _ _ (omega arith) c.system-item.is c.loop-system.invariant c.in_err-write_system.ensures)

pub returns : goal.returns
returns g c = writes_row (system_text c.args.order) c.args.systems.now c.loop-system.system-index _ _ _ (omega arith) c.loop-system.invariant
