use Rattle.fmt_lexer.proofs.Places.{computed_tokens}
use Rattle.fmt_lexer.proofs.laws.computed_row.Goals as goal

pub returns : goal.returns
returns c = computed_tokens
