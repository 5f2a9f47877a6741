use Rattle.fmt_lexer.proofs.Numbers.{same_parts}
use Rattle.fmt_lexer.proofs.laws.one_number.Goals as goal

pub returns : goal.returns
returns c = same_parts
