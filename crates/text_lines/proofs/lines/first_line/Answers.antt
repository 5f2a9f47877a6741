use Rattle.std.proofs.Common.{◌+◌}
use Rattle.std.proofs.lemmas.List.{take_rest}
use Rattle.text_lines.proofs.Splits.{split_some, split_none}
use Rattle.text_lines.proofs.lines.first_line.Goals as goal

pub returns-in-Some-clause-split : goal.returns-in-Some-clause-split
returns-in-Some-clause-split c = rw (take_rest c.args.text.now (c.in-Some.end + 1)) (split_some c.args.text.now c.in-Some.end c.in-Some.ensures)

pub returns-in-None-clause-split : goal.returns-in-None-clause-split
returns-in-None-clause-split c = split_none c.args.text.now c.in-None.ensures
