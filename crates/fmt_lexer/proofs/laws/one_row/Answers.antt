use Rattle.fmt_lexer.proofs.Places.{same_row}
use Rattle.fmt_lexer.proofs.laws.one_row.Goals as goal

pub returns : goal.returns
returns c = same_row
