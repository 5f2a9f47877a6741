use Rattle.symbols.proofs.FirstSymbols.{name_len_is}
use Rattle.symbols.proofs.first.name_len.Goals as goal

pub returns : goal.returns
returns c = name_len_is c.args.text.now _ _ c.next.result c.memchr3_iter.ensures.value c.next.ensures.steps
