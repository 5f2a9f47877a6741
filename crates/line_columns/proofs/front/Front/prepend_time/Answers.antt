use Rattle.std.proofs.Common.{arith}
use Rattle.line_columns.proofs.Lengths.{seconds_short, rounded_short}
use Rattle.line_columns.proofs.front.Front.prepend_time.Goals as goal

pub returns-then-full-clause-longer : goal.returns-then-full-clause-longer
returns-then-full-clause-longer c = omega (arith, c.prepend_number.ensures.longer, c.prepend_byte.ensures.longer, c.prepend_nine.ensures.longer, seconds_short c.args.time c.ranges.time.fits)

pub returns-else-full-clause-longer : goal.returns-else-full-clause-longer
returns-else-full-clause-longer c =
    omega (
      arith,
      c.prepend_number-else-full.ensures.longer,
      c.prepend_byte-else-full.ensures.longer,
      c.prepend_six.ensures.longer,
      rounded_short c.args.time c.micros-micros.result c.ranges.time.fits c.micros-micros.ensures,
    )
