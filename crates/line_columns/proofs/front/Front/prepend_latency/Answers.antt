use Rattle.std.proofs.Common.{arith}
use Rattle.line_columns.proofs.Lengths.{cpu_short}
use Rattle.line_columns.proofs.front.Front.prepend_latency.Goals as goal

pub prepend_byte-requires-2 : goal.prepend_byte-requires-2
prepend_byte-requires-2 c = omega (arith, c.prepend_number.ensures.longer, c.prepend_text.ensures.longer, c.prepend_byte.ensures.longer, c.requires, cpu_short c.args.cpu c.ranges.cpu.fits)

pub returns-clause-longer : goal.returns-clause-longer
returns-clause-longer c = omega (arith, c.prepend_byte-2.ensures.longer, c.prepend_number.ensures.longer, c.prepend_text.ensures.longer, c.prepend_byte.ensures.longer, cpu_short c.args.cpu c.ranges.cpu.fits)
