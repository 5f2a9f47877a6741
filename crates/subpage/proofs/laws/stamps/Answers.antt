use Rattle.subpage.proofs.Stamping.{stamped_below, stamped_low, stamped_from, stamped_near}
use Rattle.subpage.proofs.laws.stamps.Goals as goal

pub returns-clause-below : goal.returns-clause-below
returns-clause-below c = stamped_below

pub returns-clause-low_bits : goal.returns-clause-low_bits
returns-clause-low_bits c = stamped_low

pub returns-clause-no_earlier : goal.returns-clause-no_earlier
returns-clause-no_earlier c = stamped_from

pub returns-clause-nearest : goal.returns-clause-nearest
returns-clause-nearest c = stamped_near
