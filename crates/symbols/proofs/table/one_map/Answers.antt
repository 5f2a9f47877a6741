use Rattle.symbols.proofs.PairLemmas.{map_there, one_map}
use Rattle.symbols.proofs.table.one_map.Goals as goal

pub returns-clause-there : goal.returns-clause-there
returns-clause-there c = map_there

pub returns-clause-one : goal.returns-clause-one
returns-clause-one c = one_map
