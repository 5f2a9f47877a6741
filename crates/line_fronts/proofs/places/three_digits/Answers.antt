use Rattle.line_fronts.proofs.Pids.{in_column}
use Rattle.line_fronts.proofs.places.three_digits.Goals as goal

pub returns-clause-value : goal.returns-clause-value
returns-clause-value c = in_column c.args.n c.place.result.now c.requires.least c.requires.most c.place.ensures.value
