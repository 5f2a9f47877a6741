use Rattle.fmt_lexer.proofs.Results.{found_in, none_in}
use Rattle.fmt_lexer.proofs.lexer.tokens.Goals as goal

pub returns-clause-found : goal.returns-clause-found
returns-clause-found c = found_in c.args.text.now c.row.result c.row.ensures

pub returns-clause-none : goal.returns-clause-none
returns-clause-none c = none_in c.args.text.now c.row.result c.row.ensures
