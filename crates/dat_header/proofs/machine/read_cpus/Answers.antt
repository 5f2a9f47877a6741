use Rattle.std.proofs.Common.{rules}
use Rattle.std.proofs.lemmas.Result.{err_from_is_err_and}
use Rattle.dat_options.specs.declared.fault.OpenFault.TheVariants.{TooManyCpus}
use Rattle.dat_header.specs.ItemsAt.{cpus_of}
use Rattle.dat_header.proofs.Values.{value_found, value_wrong, value_failed}
use Rattle.dat_header.proofs.machine.read_cpus.Goals as goal

pub returns-in_err-cpus-clause-steps : goal.returns-in_err-cpus-clause-steps
returns-in_err-cpus-clause-steps g c =
    let p = err_from_is_err_and c.from_residual.result c.from_residual.ensures.1 in
    rw (p.1, p.2) (value_failed 4 c.args.order cpus_of (TooManyCpus c.args.at) _ _ _ _ c.in_err-cpus.ensures)

pub returns-then-cpus-gt1024-clause-steps : goal.returns-then-cpus-gt1024-clause-steps
returns-then-cpus-gt1024-clause-steps g c = value_wrong 4 c.args.order cpus_of (TooManyCpus c.args.at) _ _ _ _ _ c.in_ok-cpus.ensures (search rules) tt

pub returns-clause-steps : goal.returns-clause-steps
returns-clause-steps g c = value_found 4 c.args.order cpus_of (TooManyCpus c.args.at) _ _ _ _ _ _ c.in_ok-cpus.ensures (search rules)
