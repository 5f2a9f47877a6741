use Rattle.dat_header.proofs.HeaderLaws.{written_spelled}
use Rattle.dat_header.proofs.write.write_header.Goals as goal

pub returns-clause-spelled : goal.returns-clause-spelled
returns-clause-spelled g c = written_spelled c.args.header.now c.args.parts.now c.requires.allowed c.requires.each

pub returns-in_err-write_pieces-clause-spelled : goal.returns-in_err-write_pieces-clause-spelled
returns-in_err-write_pieces-clause-spelled g c = written_spelled c.args.header.now c.args.parts.now c.requires.allowed c.requires.each
