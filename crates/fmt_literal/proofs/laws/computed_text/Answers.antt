use Rattle.fmt_literal.proofs.Letters.{text_computed}
use Rattle.fmt_literal.proofs.laws.computed_text.Goals as goal

pub returns : goal.returns
returns c = text_computed
