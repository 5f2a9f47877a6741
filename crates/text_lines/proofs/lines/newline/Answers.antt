use Rattle.text_lines.proofs.Splits.{newline_at}
use Rattle.text_lines.proofs.lines.newline.Goals as goal

pub returns : goal.returns
returns c = newline_at c.args.text.now c.find_byte.result c.find_byte.ensures
