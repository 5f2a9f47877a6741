use Rattle.dat_header.proofs.Partials.{computes_partial, computes_partial_refusal}
use Rattle.dat_header.proofs.partial_laws.partial_header_is_computed.Goals as goal

pub returns-clause-header : goal.returns-clause-header
returns-clause-header c = computes_partial

pub returns-clause-refusal : goal.returns-clause-refusal
returns-clause-refusal c = computes_partial_refusal
