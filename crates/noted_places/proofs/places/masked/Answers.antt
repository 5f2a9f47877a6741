use Rattle.std.proofs.lemmas.Nat.{and_le_r}
use Rattle.noted_places.proofs.Rooms.{masked}
use Rattle.noted_places.proofs.places.masked.Goals as goal

pub returns-clause-value : goal.returns-clause-value
returns-clause-value c = masked c.args.number c.args.mask c.requires

pub returns-clause-within : goal.returns-clause-within
returns-clause-within c = and_le_r c.args.number c.args.mask
