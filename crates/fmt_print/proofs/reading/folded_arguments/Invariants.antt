use Rattle.fmt_print.proofs.Folding.{ArgumentsTo}
use Rattle.fmt_print.proofs.reading.folded_arguments.Given as goal

abbrev pub invariant-loop-arg : goal.invariant-loop-arg
invariant-loop-arg l = ArgumentsTo l.made.items l.fn.args l.arg-index
