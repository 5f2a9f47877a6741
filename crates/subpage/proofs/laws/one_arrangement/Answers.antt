use Rattle.subpage.proofs.Arranged.{arranged_is, is_arranged}
use Rattle.subpage.proofs.laws.one_arrangement.Goals as goal

pub returns-clause-arranged : goal.returns-clause-arranged
returns-clause-arranged c = arranged_is

pub returns-clause-one : goal.returns-clause-one
returns-clause-one c = is_arranged
