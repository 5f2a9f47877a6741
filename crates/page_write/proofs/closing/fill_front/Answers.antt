use Rattle.trace_base.proofs.Layouts.{carried}
use Rattle.page_write.proofs.Pages.{word_small}
use Rattle.page_write.proofs.closing.fill_front.Goals as goal

pub put_long-requires-2-clause-fits : goal.put_long-requires-2-clause-fits
put_long-requires-2-clause-fits c = word_small c.args.layout.now c.args.word (carried c.args.layout.now) c.requires.fits
