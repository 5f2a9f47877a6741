use Rattle.dat_header.proofs.HeaderLaws.{reads_back}
use Rattle.dat_header.proofs.laws.header_reads_back.Goals as goal

pub returns : goal.returns
returns c = reads_back
