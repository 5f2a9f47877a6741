use Rattle.fmt_literal.proofs.Letters.{letter_computed}
use Rattle.fmt_literal.proofs.laws.computed_letter.Goals as goal

pub returns : goal.returns
returns c = letter_computed
