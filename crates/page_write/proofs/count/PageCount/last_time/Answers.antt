use Rattle.page_write.proofs.count.PageCount.last_time.Goals as goal

pub returns : goal.returns
returns c = λ layout xs count. c.last_time.ensures layout count.held count.fill
