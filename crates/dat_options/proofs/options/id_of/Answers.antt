use Rattle.dat_options.proofs.Numbers.{number_spells}
use Rattle.dat_options.proofs.options.id_of.Goals as goal

pub returns : goal.returns
returns c = number_spells c.args.order 2 _ c.args.bytes.now c.told-bytes c.fits-bytes c.read_u16.ensures
