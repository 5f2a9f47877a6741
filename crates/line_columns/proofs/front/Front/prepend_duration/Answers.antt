use Rattle.std.proofs.Common.{◌/◌, length, length-append, ap, arith}
use Rattle.std.specs.Fmt.{decimal}
use Rattle.line_columns.proofs.Lengths.{micros_short}
use Rattle.line_columns.proofs.front.Front.prepend_duration.Goals as goal

pub returns-clause-longer : goal.returns-clause-longer
returns-clause-longer c =
    omega (
      arith,
      ap length c.prepend_digits.ensures.value,
      length-append (decimal (c.args.nanos / 1000)) c.prepend_byte.new.self,
      c.prepend_byte.ensures.longer,
      c.prepend_three.ensures.longer,
      c.prepend_text.ensures.longer,
      micros_short c.args.nanos c.ranges.nanos.fits,
    )
