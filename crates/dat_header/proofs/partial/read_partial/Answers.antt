use Rattle.dat_header.proofs.Headers.{header_reads}
use Rattle.dat_header.proofs.partial.read_partial.Goals as goal

pub returns-clause-answer : goal.returns-clause-answer
returns-clause-answer g c = c.read_partial_pieces.ensures.steps.answer

pub returns-clause-file : goal.returns-clause-file
returns-clause-file g c = header_reads _ _ _ _ c.read_partial_pieces.ensures.steps
