use Rattle.dat_header.proofs.HeaderLaws.{one_header, spellings_differ}
use Rattle.dat_header.proofs.laws.one_header.Goals as goal

pub returns-clause-spellings : goal.returns-clause-spellings
returns-clause-spellings c = spellings_differ

pub returns-clause-header : goal.returns-clause-header
returns-clause-header c = one_header
