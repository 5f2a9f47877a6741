use Rattle.std.proofs.Common.{arith}
use Rattle.noted_places.proofs.places.wanted.Goals as goal

pub returns : goal.returns
returns c = omega arith
