use Rattle.symbols.proofs.ReadLines.{line_begins}
use Rattle.symbols.proofs.read.put_found.Goals as goal

pub put_line-requires-clause-begins : goal.put_line-requires-clause-begins
put_line-requires-clause-begins c = line_begins c.args.lines.now c.first_line.result.0.now c.first_line.result.1 c.first_line.ensures.split
