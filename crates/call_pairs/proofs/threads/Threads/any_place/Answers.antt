use Rattle.std.proofs.Common.{sym}
use Rattle.call_pairs.proofs.threads.Threads.any_place.Goals as goal

pub returns-in-Some-clause-there : goal.returns-in-Some-clause-there
returns-in-Some-clause-there c = c.requires.places.of_map c.args.thread c.in-Some.place.now (sym c.in-Some.ensures.value)
