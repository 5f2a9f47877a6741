use Rattle.dat_header.proofs.HeaderLaws.{computes_header, computes_refusal, refuses_by_bytes}
use Rattle.dat_header.proofs.laws.header_is_computed.Goals as goal

pub returns-clause-header : goal.returns-clause-header
returns-clause-header c = computes_header

pub returns-clause-refusal : goal.returns-clause-refusal
returns-clause-refusal c = computes_refusal

pub returns-clause-by_bytes : goal.returns-clause-by_bytes
returns-clause-by_bytes c = refuses_by_bytes
