use Rattle.dat_header.proofs.Partials.{one_partial, whole_serves}
use Rattle.dat_header.proofs.partial_laws.one_partial_header.Goals as goal

pub returns-clause-header : goal.returns-clause-header
returns-clause-header c = one_partial

pub returns-clause-whole : goal.returns-clause-whole
returns-clause-whole c = whole_serves
