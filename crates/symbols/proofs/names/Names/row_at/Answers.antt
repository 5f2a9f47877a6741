use Rattle.std.proofs.Common.{rules}
use Rattle.symbols.proofs.RowLemmas.{row_at}
use Rattle.symbols.proofs.names.Names.row_at.Goals as goal

pub returns : goal.returns
returns c = search (rules, row_at c.args.self.now c.args.i)
