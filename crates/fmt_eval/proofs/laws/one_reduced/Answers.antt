use Rattle.fmt_eval.proofs.ReducedLaws.{one_number}
use Rattle.fmt_eval.proofs.laws.one_reduced.Goals as goal

pub returns : goal.returns
returns c kind z r s one two = one_number kind z r s one two
