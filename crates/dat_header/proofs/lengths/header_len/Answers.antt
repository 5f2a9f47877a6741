use Rattle.dat_header.proofs.Wrapped.{header_len_is}
use Rattle.dat_header.proofs.lengths.header_len.Goals as goal

pub returns : goal.returns
returns c = λ parts each. header_len_is c.args.header.now parts c.texts_len-texts.result c.lists_len-lists.result c.args.header.now.cpus each c.texts_len-texts.ensures (c.lists_len-lists.ensures c.args.header.now.order)
