use Rattle.wakeup_pairs.proofs.Passing.{pass_pairs}
use Rattle.wakeup_pairs.proofs.Partners.{one_list}
use Rattle.wakeup_pairs.proofs.laws.pairs_of_pass.Goals as goal

pub returns-clause-pass : goal.returns-clause-pass
returns-clause-pass c = pass_pairs

pub returns-clause-one : goal.returns-clause-one
returns-clause-one c = one_list
