use Rattle.dat_header.proofs.Wrapped.{held_len_is}
use Rattle.dat_header.proofs.lengths.len_with_table.Goals as goal

pub returns : goal.returns
returns c = λ parts each. held_len_is c.args.header.now c.args.before.now c.as_bytes.result.now parts c.args.header.now.cpus c.requires c.as_bytes.ensures each
