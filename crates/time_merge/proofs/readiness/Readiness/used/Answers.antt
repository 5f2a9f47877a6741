use Rattle.std.proofs.Common.{subst}
use Rattle.time_merge.specs.Readiness.{AreKnown}
use Rattle.time_merge.proofs.readiness.Readiness.used.Goals as goal

pub returns-in-AllBut : goal.returns-in-AllBut
returns-in-AllBut c = λ lanes keys known. subst (AreKnown lanes keys) c.in-AllBut.is known
