use Rattle.noted_places.proofs.NotedLaws.{noted_count, noted_last, noted_none, noted_some}
use Rattle.noted_places.proofs.laws.last_of_equals.Goals as goal

pub returns-clause-count : goal.returns-clause-count
returns-clause-count c = noted_count

pub returns-clause-last : goal.returns-clause-last
returns-clause-last c = noted_last

pub returns-clause-none : goal.returns-clause-none
returns-clause-none c = noted_none

pub returns-clause-some : goal.returns-clause-some
returns-clause-some c = noted_some
