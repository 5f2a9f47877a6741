use Rattle.std.proofs.Common.{rules}
use Rattle.std.proofs.lemmas.Result.{err_from_is_err_and}
use Rattle.dat_options.specs.declared.fault.OpenFault.TheVariants.{BadPageSize}
use Rattle.dat_header.specs.ItemsAt.{page_of}
use Rattle.dat_header.proofs.Values.{value_found, value_wrong, value_failed, page_known, page_allowed, page_unlisted}
use Rattle.dat_header.proofs.machine.read_page.Goals as goal

pub returns-in_err-page-clause-steps : goal.returns-in_err-page-clause-steps
returns-in_err-page-clause-steps g c =
    let p = err_from_is_err_and c.from_residual.result c.from_residual.ensures.1 in
    rw (p.1, p.2) (value_failed 4 c.args.order page_of (BadPageSize c.args.at) _ _ _ _ c.in_err-page.ensures)

pub returns-in-4096-clause-steps : goal.returns-in-4096-clause-steps
returns-in-4096-clause-steps g c = value_found 4 c.args.order page_of (BadPageSize c.args.at) _ _ _ _ _ _ c.in_ok-page.ensures (page_known _ c.in-4096.is)

pub returns-in-4096-clause-allowed : goal.returns-in-4096-clause-allowed
returns-in-4096-clause-allowed g c = page_allowed _ c.in-4096.is

pub returns-in_default-clause-steps : goal.returns-in_default-clause-steps
returns-in_default-clause-steps g c = value_wrong 4 c.args.order page_of (BadPageSize c.args.at) _ _ _ _ _ c.in_ok-page.ensures (page_unlisted c.in_ok-page.page (search rules)) tt
