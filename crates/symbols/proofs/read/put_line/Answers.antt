use Rattle.symbols.proofs.ReadLines.{stands_behind}
use Rattle.symbols.proofs.read.put_line.Goals as goal

pub put-requires-clause-stands : goal.put-requires-clause-stands
put-requires-clause-stands c = stands_behind c.args.text.now c.args.lines.now c.in_lines.result c.requires.ends c.in_lines.ensures.stands
