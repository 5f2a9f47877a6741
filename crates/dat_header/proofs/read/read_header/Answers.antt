use Rattle.std.proofs.Common.{◌≤◌}
use Rattle.std.proofs.lemmas.Result.{IfOk-weaker}
use Rattle.dat_header.specs.Allowed.{IsHeader, IsBody}
use Rattle.dat_header.proofs.Headers.{header_reads}
use Rattle.dat_header.proofs.read.read_header.Goals as goal

pub returns-clause-answer : goal.returns-clause-answer
returns-clause-answer g c = c.read_pieces.ensures.steps.answer

pub returns-clause-file : goal.returns-clause-file
returns-clause-file g c = header_reads _ _ _ _ c.read_pieces.ensures.steps

pub returns-clause-cpus : goal.returns-clause-cpus
returns-clause-cpus g c = IfOk-weaker c.read_pieces.result IsHeader (λ header. header.cpus ≤ 1024) (λ header is. is.cpus) c.read_pieces.ensures.allowed

pub returns-clause-parts : goal.returns-clause-parts
returns-clause-parts g c = IfOk-weaker c.read_pieces.result IsHeader (λ header. IsBody header.cpus header.body) (λ header is. is.body) c.read_pieces.ensures.allowed
