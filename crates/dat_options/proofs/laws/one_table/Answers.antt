use Rattle.dat_options.proofs.TableLaws.{one_list}
use Rattle.dat_options.proofs.laws.one_table.Goals as goal

pub returns : goal.returns
returns c = one_list
