use Rattle.page_write.proofs.Steps.{no_size}
use Rattle.page_write.proofs.count.PageCount.new.Goals as goal

pub returns-clause-counts : goal.returns-clause-counts
returns-clause-counts c = λ layout. no_size layout c.new.result c.new.ensures
