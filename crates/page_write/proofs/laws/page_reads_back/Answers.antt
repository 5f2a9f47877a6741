use Rattle.trace_base.proofs.Layouts.{carried}
use Rattle.page_write.proofs.Pages.{page_reads_back}
use Rattle.page_write.proofs.laws.page_reads_back.Goals as goal

pub returns : goal.returns
returns c = λ layout xs. page_reads_back layout xs (carried layout)
