use Rattle.dat_options.proofs.OptionsLaws.{options_again}
use Rattle.dat_options.proofs.laws.options_read_back.Goals as goal

pub returns : goal.returns
returns c = options_again
