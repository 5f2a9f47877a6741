use Rattle.dat_options.proofs.Computed.{computes_options, computes_no_options}
use Rattle.dat_options.proofs.laws.options_are_computed.Goals as goal

pub returns-clause-found : goal.returns-clause-found
returns-clause-found c = computes_options

pub returns-clause-cut : goal.returns-clause-cut
returns-clause-cut c = computes_no_options
