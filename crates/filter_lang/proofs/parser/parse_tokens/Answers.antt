use Rattle.filter_lang.proofs.Answered.{answered}
use Rattle.filter_lang.proofs.parser.parse_tokens.Goals as goal

pub returns : goal.returns
returns c = answered (record { alloc = c.args.alloc; tokens = c.args.tokens }) c.filter.result c.filter.ensures
