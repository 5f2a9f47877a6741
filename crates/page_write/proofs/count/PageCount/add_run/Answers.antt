use Rattle.std.proofs.Common.{refl}
use Rattle.page_write.proofs.Steps.{size_run}
use Rattle.page_write.proofs.count.PageCount.add_run.Goals as goal

pub returns-clause-counts : goal.returns-clause-counts
returns-clause-counts c = λ xs ys count after room.
    size_run c.args.layout.now c.args.self.now _ xs ys c.args.run.now c.args.end count after (c.add_run.ensures count.held ys count.fill after room) refl
