use Rattle.std.proofs.Common.{rules, ap}
use Rattle.std.proofs.lemmas.Result.{err_from_is_err_and}
use Rattle.trace_base.specs.declared.order.Order.TheVariants.{Little}
use Rattle.dat_options.specs.declared.fault.OpenFault.TheVariants.{BadEndian}
use Rattle.dat_header.specs.ItemsAt.{order_of}
use Rattle.dat_header.proofs.Values.{value_found, value_wrong, value_failed}
use Rattle.dat_header.proofs.machine.read_order.Goals as goal

pub returns-in_err-byte : goal.returns-in_err-byte
returns-in_err-byte g c =
    let p = err_from_is_err_and c.from_residual.result c.from_residual.ensures.1 in
    rw (p.1, p.2) (value_failed 1 Little order_of (BadEndian c.args.at) _ _ _ _ c.in_err-byte.ensures.steps)

pub returns-in-0 : goal.returns-in-0
returns-in-0 g c = value_found 1 Little order_of (BadEndian c.args.at) _ _ _ _ _ _ c.in_ok-byte.ensures.steps (ap order_of c.in-0.is)

pub returns-in-1 : goal.returns-in-1
returns-in-1 g c = value_found 1 Little order_of (BadEndian c.args.at) _ _ _ _ _ _ c.in_ok-byte.ensures.steps (ap order_of c.in-1.is)

pub returns-in_default : goal.returns-in_default
returns-in_default g c = value_wrong 1 Little order_of (BadEndian c.args.at) _ _ _ _ _ c.in_ok-byte.ensures.steps (search rules) tt
