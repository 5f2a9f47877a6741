use Rattle.std.proofs.Common.{◌/◌, length, length-append, ap, arith}
use Rattle.std.specs.Fmt.{decimal}
use Rattle.line_columns.proofs.Lengths.{seconds_short, rounded_short}
use Rattle.line_columns.proofs.front.Front.prepend_bare_time.Goals as goal

pub returns-then-full-clause-longer : goal.returns-then-full-clause-longer
returns-then-full-clause-longer c =
    omega (
      arith,
      ap length c.prepend_digits.ensures.value,
      length-append (decimal (c.args.time / 1000000000)) c.prepend_byte.new.self,
      c.prepend_byte.ensures.longer,
      c.prepend_nine.ensures.longer,
      seconds_short c.args.time c.ranges.time.fits,
    )

pub returns-else-full-clause-longer : goal.returns-else-full-clause-longer
returns-else-full-clause-longer c =
    omega (
      arith,
      ap length c.prepend_digits-else-full.ensures.value,
      length-append (decimal (c.micros-micros.result / 1000000)) c.prepend_byte-else-full.new.self,
      c.prepend_byte-else-full.ensures.longer,
      c.prepend_six.ensures.longer,
      rounded_short c.args.time c.micros-micros.result c.ranges.time.fits c.micros-micros.ensures,
    )
