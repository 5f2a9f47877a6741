use Rattle.std.proofs.Common.{length, length-append, ap, arith}
use Rattle.std.specs.Fmt.{decimal}
use Rattle.line_columns.proofs.Lengths.{cpu_short}
use Rattle.line_columns.proofs.front.Front.prepend_cpu.Goals as goal

pub returns-else-cpu-lt1000-clause-longer : goal.returns-else-cpu-lt1000-clause-longer
returns-else-cpu-lt1000-clause-longer c = omega (arith, ap length c.prepend_digits.ensures.value, length-append (decimal c.args.cpu) c.args.self.now, cpu_short c.args.cpu c.ranges.cpu.fits)
