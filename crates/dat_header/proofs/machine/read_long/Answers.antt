use Rattle.std.proofs.Common.{rules}
use Rattle.std.proofs.lemmas.Result.{err_from_is_err_and}
use Rattle.trace_base.specs.declared.order.Order.TheVariants.{Little}
use Rattle.dat_options.specs.declared.fault.OpenFault.TheVariants.{BadLong}
use Rattle.dat_header.specs.ItemsAt.{long_of}
use Rattle.dat_header.proofs.Values.{value_found, value_wrong, value_failed, long_known}
use Rattle.dat_header.proofs.machine.read_long.Goals as goal

pub returns-in_err-byte-clause-steps : goal.returns-in_err-byte-clause-steps
returns-in_err-byte-clause-steps g c =
    let p = err_from_is_err_and c.from_residual.result c.from_residual.ensures.1 in
    rw (p.1, p.2) (value_failed 1 Little long_of (BadLong c.args.at) _ _ _ _ c.in_err-byte.ensures.steps)

pub returns-in-4-clause-steps : goal.returns-in-4-clause-steps
returns-in-4-clause-steps g c = value_found 1 Little long_of (BadLong c.args.at) _ _ _ _ _ _ c.in_ok-byte.ensures.steps (long_known _ c.in-4.is)

pub returns-in_default-clause-steps : goal.returns-in_default-clause-steps
returns-in_default-clause-steps g c = value_wrong 1 Little long_of (BadLong c.args.at) _ _ _ _ _ c.in_ok-byte.ensures.steps (search rules) tt
