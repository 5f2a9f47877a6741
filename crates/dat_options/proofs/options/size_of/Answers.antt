use Rattle.dat_options.proofs.Numbers.{number_spells}
use Rattle.dat_options.proofs.options.size_of.Goals as goal

pub returns : goal.returns
returns c = number_spells c.args.order 4 _ c.args.bytes.now c.told-bytes c.fits-bytes c.read_u32.ensures
