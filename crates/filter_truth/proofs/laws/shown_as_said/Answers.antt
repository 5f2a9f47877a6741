use Rattle.filter_truth.proofs.Shows.{said, as_said}
use Rattle.filter_truth.proofs.laws.shown_as_said.Goals as goal

pub returns-clause-value : goal.returns-clause-value
returns-clause-value c = λ uses format e. (said uses format e, as_said uses format e)
