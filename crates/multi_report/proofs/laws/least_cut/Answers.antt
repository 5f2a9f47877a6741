use Rattle.multi_report.proofs.LeastCut.{least_is, none_cut}
use Rattle.multi_report.proofs.laws.least_cut.Goals as goal

pub returns-clause-least : goal.returns-clause-least
returns-clause-least c = least_is

pub returns-clause-none : goal.returns-clause-none
returns-clause-none c = none_cut
