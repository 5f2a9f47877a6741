use Rattle.std.proofs.Common.{arith}
use Rattle.symbols.proofs.Addresses.{fits_more, read_more}
use Rattle.symbols.proofs.digits.eight_digits.Goals as goal

pub overflow_mul-number : goal.overflow_mul-number
overflow_mul-number c = omega (arith, fits_more c.args.text.now c.loop-i.i c.loop-i.number 0 c.loop-i.invariant c.loop-i-test.true (omega arith))

pub overflow_add-number : goal.overflow_add-number
overflow_add-number c = omega (arith, fits_more c.args.text.now c.loop-i.i c.loop-i.number c.digit_or_none.result c.loop-i.invariant c.loop-i-test.true c.digit_or_none.ensures.most)

pub loop-i-preserved : goal.loop-i-preserved
loop-i-preserved c =
    read_more c.args.text.now c.loop-i.i c.loop-i.number c.digit_or_none.result (omega arith) c.loop-i.invariant c.digit_or_none.ensures.most c.digit_or_none.ensures.digit
