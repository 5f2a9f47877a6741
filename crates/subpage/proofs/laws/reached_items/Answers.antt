use Rattle.subpage.proofs.OwnReached.{own_reached}
use Rattle.subpage.proofs.Reaching.{reached_first}
use Rattle.subpage.proofs.laws.reached_items.Goals as goal

pub returns-clause-first : goal.returns-clause-first
returns-clause-first c = reached_first

pub returns-clause-own : goal.returns-clause-own
returns-clause-own c = own_reached
