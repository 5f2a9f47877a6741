use Rattle.fmt_literal.proofs.Numbers.{computed}
use Rattle.fmt_literal.proofs.laws.computed_number.Goals as goal

pub returns : goal.returns
returns c = computed
