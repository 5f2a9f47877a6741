use Rattle.std.proofs.Common.{rules}
use Rattle.filter_truth.proofs.Shows.{settled_is}
use Rattle.filter_truth.proofs.select.Filters.settled.Goals as goal

pub returns-clause-alike : goal.returns-clause-alike
returns-clause-alike c = settled_is c.args.self.now c.args.format _ c.show.result (search rules) c.show.ensures
