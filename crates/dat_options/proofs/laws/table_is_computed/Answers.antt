use Rattle.dat_options.proofs.Computed.{computes_table, computes_no_table}
use Rattle.dat_options.proofs.laws.table_is_computed.Goals as goal

pub returns-clause-found : goal.returns-clause-found
returns-clause-found c = computes_table

pub returns-clause-cut : goal.returns-clause-cut
returns-clause-cut c = computes_no_table
