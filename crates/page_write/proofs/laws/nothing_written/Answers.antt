use Rattle.page_write.proofs.Steps.{nothing_yet}
use Rattle.page_write.proofs.laws.nothing_written.Goals as goal

pub returns : goal.returns
returns c = λ layout told. nothing_yet layout told
