use Rattle.page_write.proofs.count.PageCount.room.Goals as goal

pub returns-clause-room : goal.returns-clause-room
returns-clause-room c = λ xs count. c.room.ensures.room count.held count.fill
