use Rattle.filter_truth.proofs.Bindings.{same_truth}
use Rattle.filter_truth.proofs.laws.binding_changes_no_truth.Goals as goal

pub returns : goal.returns
returns c = same_truth
