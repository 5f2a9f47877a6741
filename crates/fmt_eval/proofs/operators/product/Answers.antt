use Rattle.std.proofs.Common.{rules}
use Rattle.std.proofs.lemmas.Int.{wraps}
use Rattle.fmt_eval.proofs.Reductions.{reduced_wrapped}
use Rattle.fmt_eval.proofs.operators.product.Goals as goal

pub returns : goal.returns
returns c = search (rules, wraps, reduced_wrapped)
