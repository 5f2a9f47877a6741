use Rattle.dat_options.proofs.OptionsLaws.{one_list}
use Rattle.dat_options.proofs.laws.one_options.Goals as goal

pub returns : goal.returns
returns c = one_list
