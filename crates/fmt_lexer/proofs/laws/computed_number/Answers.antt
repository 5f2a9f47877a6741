use Rattle.fmt_lexer.proofs.Numbers.{computed_parts}
use Rattle.fmt_lexer.proofs.laws.computed_number.Goals as goal

pub returns : goal.returns
returns c = computed_parts
