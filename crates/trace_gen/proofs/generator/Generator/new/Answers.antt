use Rattle.trace_gen.proofs.Drawn.{at_start}
use Rattle.trace_gen.proofs.generator.Generator.new.Goals as goal

pub returns : goal.returns
returns c = at_start c.args.seed
